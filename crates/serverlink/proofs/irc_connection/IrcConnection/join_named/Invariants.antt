use Rattle.std.proofs.Common.{◌≡◌, drop}
use Rattle.serverlink.specs.Casings.{mapping_in}
use Rattle.serverlink.specs.Listing.{is_welcomed, with_all_listed}
use Rattle.serverlink.proofs.irc_connection.IrcConnection.join_named.Given as goal

-- the connection is as before, and what is left is done to the channels so far
abbrev pub invariant-loop-channel : goal.invariant-loop-channel
invariant-loop-channel l =
    let after = with_all_listed (mapping_in l.fn.self.session) (is_welcomed l.fn.self.session) l.number l.now in
    record {
      session : l.self.session ≡ l.fn.self.session;
      channels : after (drop l.channel-index l.listed) l.self.channels ≡ after l.listed l.fn.self.channels;
    }
