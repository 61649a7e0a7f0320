-- What a refusal speaks of.
use Rattle.std.proofs.Common.{inl, inr, ℕ, List}
use Rattle.bytetext.specs.declared.failure.Failure.{Failure}
use Rattle.bytetext.specs.declared.failure.Failure.TheVariants.{Refused, NoMemory}
use Rattle.botfolder.specs.declared.fault.FolderFault.{FolderFault}
use Rattle.promotion.specs.declared.fault.PromotionFault.{PromotionFault}
use Rattle.promotion.specs.declared.fault.PromotionFault.TheVariants.{Folder, Heir, Beside, IsHub, NoNet, BadNet, OlderLayout, Unread, GenerationsSpent, OtherNet, System}
use Rattle.promotion.specs.Faults.{IsOfLeaf, IsUnread, CannotRead, IsOfPromotion, CannotMake, of_folder, of_heir}

pub cannot_read : (x y : List ℕ) (error : Failure PromotionFault) → IsUnread error → CannotRead x y error
cannot_read x y NoMemory is = is
cannot_read x y (Refused (Folder fault)) is = absurd is
cannot_read x y (Refused (Heir fault)) is = absurd is
cannot_read x y (Refused Beside) is = absurd is
cannot_read x y (Refused IsHub) is = absurd is
cannot_read x y (Refused NoNet) is = absurd is
cannot_read x y (Refused BadNet) is = absurd is
cannot_read x y (Refused OlderLayout) is = absurd is
cannot_read x y (Refused Unread) is = is
cannot_read x y (Refused GenerationsSpent) is = is
cannot_read x y (Refused OtherNet) is = absurd is
cannot_read x y (Refused System) is = absurd is

pub of_leaf : (x y : List ℕ) (error : Failure PromotionFault) → CannotRead x y error → IsOfLeaf error
of_leaf x y NoMemory is = tt
of_leaf x y (Refused (Folder fault)) is = tt
of_leaf x y (Refused (Heir fault)) is = is
of_leaf x y (Refused Beside) is = is
of_leaf x y (Refused IsHub) is = tt
of_leaf x y (Refused NoNet) is = tt
of_leaf x y (Refused BadNet) is = tt
of_leaf x y (Refused OlderLayout) is = tt
of_leaf x y (Refused Unread) is = tt
of_leaf x y (Refused GenerationsSpent) is = tt
of_leaf x y (Refused OtherNet) is = is
of_leaf x y (Refused System) is = is

pub of_folders : (error : Failure FolderFault) → IsOfLeaf (of_folder error)
of_folders NoMemory = tt
of_folders (Refused fault) = tt

pub not_other_net : (error : Failure PromotionFault) → IsOfLeaf error → IsOfPromotion error
not_other_net NoMemory is = λ same. absurd (cc)
not_other_net (Refused (Folder fault)) is = λ same. absurd (cc)
not_other_net (Refused (Heir fault)) is = absurd is
not_other_net (Refused Beside) is = absurd is
not_other_net (Refused IsHub) is = λ same. absurd (cc)
not_other_net (Refused NoNet) is = λ same. absurd (cc)
not_other_net (Refused BadNet) is = λ same. absurd (cc)
not_other_net (Refused OlderLayout) is = λ same. absurd (cc)
not_other_net (Refused Unread) is = λ same. absurd (cc)
not_other_net (Refused GenerationsSpent) is = λ same. absurd (cc)
not_other_net (Refused OtherNet) is = absurd is
not_other_net (Refused System) is = absurd is

pub heirs_are : (error : Failure FolderFault) → IsOfPromotion (of_heir error)
heirs_are NoMemory = λ same. absurd (cc)
heirs_are (Refused fault) = λ same. absurd (cc)

pub not_made : (error : Failure PromotionFault) → CannotMake error → IsOfPromotion error
not_made error (inl is) = λ same. absurd (cc)
not_made error (inr is) = λ same. absurd (cc)
