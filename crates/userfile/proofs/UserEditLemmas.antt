-- What an edit leaves of a user.
use Rattle.std.proofs.Common.{◌≡◌, List, ℕ, refl, ap, Result, Ok, Err, OnOk, OnErr}
use Rattle.bytetext.specs.declared.memory.NoMemory.{NoMemory}
use Rattle.userfile.specs.Apply.{with_mask}
use Rattle.userfile.specs.declared.user.User.{User}
use Rattle.userfile.specs.declared.user_edits.UserEdit.{UserEdit}
use Rattle.userfile.specs.declared.user_edits.UserEdit.TheVariants.{DelMask, SetGlobal, DelChannel, SetChannels, SetBot, SetInfo}
use Rattle.userfile.specs.UserEdits.{edited}

-- an edit keeps the handle
pub handle-edited : (edit : UserEdit) (user : User) → (edited edit user).handle ≡ user.handle
handle-edited (DelMask m) user = refl
handle-edited (SetGlobal f) user = refl
handle-edited (DelChannel c) user = refl
handle-edited (SetChannels es) user = refl
handle-edited (SetBot f) user = refl
handle-edited (SetInfo i) user = refl

-- one more mask does, and so does one for which there is no memory
pub handle-with_mask : (r : Result (Unit {0}) NoMemory) (m : List ℕ) (old new : User) → OnOk r (new ≡ with_mask m old) → OnErr r (new ≡ old)
    → new.handle ≡ old.handle
handle-with_mask (Ok _) m old new ok err = ap (λ (u : User). u.handle) ok
handle-with_mask (Err _) m old new ok err = ap (λ (u : User). u.handle) err
