-- What a refusal speaks of.
use Rattle.std.specs.Prelude.{◌≡◌, ◌≢◌, ◌⊎◌, ◌<◌, ℕ, List, IsSomeAnd}
use Rattle.bytetext.specs.declared.failure.Failure.{Failure}
use Rattle.bytetext.specs.declared.failure.Failure.TheVariants.{Refused, NoMemory}
use Rattle.botfolder.specs.declared.fault.FolderFault.{FolderFault}
use Rattle.botfolder.specs.declared.fault.FolderFault.TheVariants.{DiskFails}
use Rattle.botjournal.specs.declared.TheConstants.{LAYOUT}
use Rattle.botjournal.specs.Contents.{meaning}
use Rattle.promotion.specs.declared.fault.PromotionFault.{PromotionFault}
use Rattle.promotion.specs.declared.fault.PromotionFault.TheVariants.{Folder, Heir, Beside, IsHub, NoNet, BadNet, OlderLayout, Unread, GenerationsSpent, OtherNet, System}

-- it is a fault of the leaf's folder or of what that holds, or memory ran out
abbrev pub IsOfLeaf : Failure PromotionFault → Type 0
IsOfLeaf NoMemory = Unit {0}
IsOfLeaf (Refused (Folder fault)) = Unit {0}
IsOfLeaf (Refused (Heir fault)) = ⊥
IsOfLeaf (Refused Beside) = ⊥
IsOfLeaf (Refused IsHub) = Unit {0}
IsOfLeaf (Refused NoNet) = Unit {0}
IsOfLeaf (Refused BadNet) = Unit {0}
IsOfLeaf (Refused OlderLayout) = Unit {0}
IsOfLeaf (Refused Unread) = Unit {0}
IsOfLeaf (Refused GenerationsSpent) = Unit {0}
IsOfLeaf (Refused OtherNet) = ⊥
IsOfLeaf (Refused System) = ⊥

-- the fault of a folder, as one of the leaf's folder
abbrev pub of_folder : Failure FolderFault → Failure PromotionFault
of_folder NoMemory = NoMemory
of_folder (Refused fault) = Refused (Folder fault)

-- the fault of a folder, as one of the heir's folder
abbrev pub of_heir : Failure FolderFault → Failure PromotionFault
of_heir NoMemory = NoMemory
of_heir (Refused fault) = Refused (Heir fault)

-- the bytes of a journal's two disks can't be read as a leaf's, for a reason that they alone don't show, or memory ran out
abbrev pub IsUnread : Failure PromotionFault → Type 0
IsUnread NoMemory = Unit {0}
IsUnread (Refused (Folder fault)) = ⊥
IsUnread (Refused (Heir fault)) = ⊥
IsUnread (Refused Beside) = ⊥
IsUnread (Refused IsHub) = ⊥
IsUnread (Refused NoNet) = ⊥
IsUnread (Refused BadNet) = ⊥
IsUnread (Refused OlderLayout) = ⊥
IsUnread (Refused Unread) = Unit {0}
IsUnread (Refused GenerationsSpent) = Unit {0}
IsUnread (Refused OtherNet) = ⊥
IsUnread (Refused System) = ⊥

-- these bytes mean the journal of a hub
abbrev pub AreHubs : List ℕ → List ℕ → Type 0
AreHubs x y = IsSomeAnd (meaning x y) (λ contents. contents.base.bot ≡ 0)

-- these bytes mean the journal of a leaf, in another layout than the present one
abbrev pub AreOfOtherLayout : List ℕ → List ℕ → Type 0
AreOfOtherLayout x y = IsSomeAnd (meaning x y) (λ contents. (0 < contents.base.bot) × (contents.layout ≢ LAYOUT))

-- Why no leaf was read from these bytes. `IsHub` and `OlderLayout` come only if the bytes say so.
abbrev pub CannotRead : List ℕ → List ℕ → Failure PromotionFault → Type 0
CannotRead x y NoMemory = Unit {0}
CannotRead x y (Refused (Folder fault)) = ⊥
CannotRead x y (Refused (Heir fault)) = ⊥
CannotRead x y (Refused Beside) = ⊥
CannotRead x y (Refused IsHub) = AreHubs x y
CannotRead x y (Refused NoNet) = ⊥
CannotRead x y (Refused BadNet) = ⊥
CannotRead x y (Refused OlderLayout) = AreOfOtherLayout x y
CannotRead x y (Refused Unread) = Unit {0}
CannotRead x y (Refused GenerationsSpent) = Unit {0}
CannotRead x y (Refused OtherNet) = ⊥
CannotRead x y (Refused System) = ⊥

-- why a promotion was refused: never by another leaf's net, of which it knows nothing
abbrev pub IsOfPromotion : Failure PromotionFault → Type 0
IsOfPromotion error = error ≢ Refused OtherNet

-- why the heir's journal can't be made: a disk failed, or memory ran out
abbrev pub CannotMake : Failure PromotionFault → Type 0
CannotMake error = (error ≡ NoMemory) ⊎ (error ≡ Refused (Heir DiskFails))
