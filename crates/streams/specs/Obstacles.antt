-- What an error of the system means for a stream.
use Rattle.std.specs.declared.io.ErrorKind.{ErrorKind}
use Rattle.std.specs.declared.io.ErrorKind.TheVariants.{WouldBlock, Interrupted, NotConnected}
use Rattle.streams.specs.declared.obstacle.Obstacle.{Obstacle}
use Rattle.streams.specs.declared.obstacle.Obstacle.TheVariants.{Interruption, Wait, Fault}

-- an interrupted call is made again; a socket that is still connecting waits
abbrev pub obstacle_of : ErrorKind → Obstacle
obstacle_of Interrupted = Interruption
obstacle_of WouldBlock = Wait
obstacle_of NotConnected = Wait
obstacle_of _ = Fault
