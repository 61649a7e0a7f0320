-- Bases in each layout: what is read is spelled so, and what is spelled so is read.
use Rattle.std.proofs.Common.{◌≡◌, ℕ, ◌^◌, ◌<◌, true, eqb, List, [], ◌∷◌, ◌++◌, Option, Some, None, Ok, refl, sym, ap, subst, ◌∙◌, inl, inr}
use Rattle.std.specs.Int.{w32}
use Rattle.std.proofs.lemmas.Bool.{eqb-true}
use Rattle.userfile.specs.declared.error.ChangeFault.{ChangeFault}
use Rattle.userfile.specs.declared.error.ChangeFault.TheVariants.{BadHandle, BadMask, BadChannel, BadComment, NoSuchUser, UserExists, MaskExists}
use Rattle.userfile.specs.declared.error.ChangeFault.TheVariants.{NoSuchMask, BanExists, NoSuchBan, Full, NotAllowed}
use Rattle.usercodec.specs.declared.records.Record.{Record}
use Rattle.usercodec.specs.Fields.{number, byte_at, number_at}
use Rattle.usercodec.specs.Changes.{made}
use Rattle.usercodec.specs.Records.{IsGoodRecord}
use Rattle.usercodec.proofs.Steps.{IsBytes, chosen, bind_ok, ok_is, Takes}
use Rattle.usercodec.specs.FaultBytes.{fault_byte, fault_from, known}
use Rattle.botjournal.specs.declared.base.Base.{Base}
use Rattle.botjournal.specs.declared.reply.Verdict.{Verdict}
use Rattle.botjournal.specs.declared.reply.Verdict.TheVariants.{Taken, Refused}
use Rattle.botjournal.specs.declared.reply.Reply.{Reply}
use Rattle.botjournal.specs.declared.request.Request.{Request}
use Rattle.botjournal.specs.declared.layouts.Layout.{Layout}
use Rattle.botjournal.specs.declared.layouts.Layout.TheVariants.{First, Second, Third, Fourth}
use Rattle.botjournal.specs.Layouts.{record_bytes_by, IsGoodRecordBy}
use Rattle.botjournal.specs.Bases.{listed, answer_bytes, reply_bytes, base_bytes, base_bytes_by, are_kept_by, is_of_its_bot, IsGoodAnswer, IsGoodReply}
use Rattle.botjournal.specs.Bases.{AreListed, AreOutBy, IsGoodBase, IsGoodBaseBy}
use Rattle.botjournal.specs.Bases.{answer_from, answer_at, reply_at, replies_listed_at, replies_at, records_at, base_of, parts_at, base_at}
use Rattle.botjournal.specs.Bases.{base_in, IsBaseBy}
use Rattle.usercodec.proofs.PartLaws.{IsPart, checked_part, made_part, both_part}
use Rattle.usercodec.proofs.ReaderLaws.{byte_part, u16_part, u32_part, record_part, record_part_old, fault_byte-from, known_is}
use Rattle.botjournal.proofs.ItemLaws.{listed_part}
use Rattle.botjournal.proofs.WholeLaws.{whole_again, whole_spelled}
use Rattle.botjournal.proofs.LayoutLaws.{record_good}
use Rattle.botjournal.proofs.WindowLaws.{kept_good, out_good}
use Rattle.botjournal.proofs.RequestLaws.{out_part}
use Rattle.usercodec.proofs.RecordLengths.{all_map}

-- ---- replies

answer_part : IsPart answer_at answer_bytes IsGoodAnswer
unfolding answer_at answer_from byte_at fault_from
answer_part = record { takes = takes; again = again }
  where
    from_takes : (byte : ℕ) (bytes : List ℕ) (x : Verdict) (rest : List ℕ) → IsBytes bytes → answer_from byte bytes ≡ Ok (x, rest)
        → Takes (byte ∷ bytes) (answer_bytes x) rest × IsGoodAnswer x
    from_takes byte bytes x rest fits e =
        elim (chosen (eqb byte 0) _ _ _ e) [
          | inl p ↦
              let a = bind_ok (number_at w32 bytes) (λ n. Ok (Taken n.0, n.1)) (x, rest) p.1 in
              let t = u32_part.takes bytes a.0.0 a.0.1 fits a.1 in
              let parts : byte ∷ bytes ≡ (0 ∷ number w32 a.0.0) ++ a.0.1 =
              ap (λ (k : ℕ). k ∷ bytes) (eqb-true byte 0 p.0) ∙ ap (λ (b : List ℕ). 0 ∷ b) t.0.parts in
              subst (λ (q : Verdict × List ℕ). Takes (byte ∷ bytes) (answer_bytes q.0) q.1 × IsGoodAnswer q.0) (ok_is (Taken a.0.0, a.0.1) (x, rest) a.2)
              (record { parts = parts; rest_fits = t.0.rest_fits }, t.1)
          | inr p ↦
              let a = bind_ok (known (fault_from byte) bytes) (λ f. Ok (Refused f.0, f.1)) (x, rest) p.1 in
              let k = known_is (fault_from byte) bytes a.0.0 a.0.1 a.1 in
              let parts : byte ∷ bytes ≡ (fault_byte a.0.0 ∷ []) ++ a.0.1 =
              ap (λ (k : ℕ). k ∷ bytes) (sym (fault_byte-from byte a.0.0 k.0)) ∙ ap (λ (b : List ℕ). fault_byte a.0.0 ∷ b) k.1 in
              subst (λ (q : Verdict × List ℕ). Takes (byte ∷ bytes) (answer_bytes q.0) q.1 × IsGoodAnswer q.0) (ok_is (Refused a.0.0, a.0.1) (x, rest) a.2)
              (record { parts = parts; rest_fits = subst IsBytes k.1 fits }, tt)
        ]

    takes : (bytes : List ℕ) (x : Verdict) (rest : List ℕ) → IsBytes bytes → answer_at bytes ≡ Ok (x, rest) → Takes bytes (answer_bytes x) rest × IsGoodAnswer x
    takes bytes x rest fits e =
        let a = bind_ok (byte_at bytes) (λ byte. answer_from byte.0 byte.1) (x, rest) e in
        let t = byte_part.takes bytes a.0.0 a.0.1 fits a.1 in
        let u = from_takes a.0.0 a.0.1 x rest t.0.rest_fits a.2 in
        (record { parts = t.0.parts ∙ u.0.parts; rest_fits = u.0.rest_fits }, u.1)

    refused : (fault : ChangeFault) (rest : List ℕ) → answer_at (fault_byte fault ∷ rest) ≡ Ok (Refused fault, rest)
    refused BadHandle rest = refl
    refused UserExists rest = refl
    refused NoSuchUser rest = refl
    refused BadMask rest = refl
    refused MaskExists rest = refl
    refused NoSuchMask rest = refl
    refused BadChannel rest = refl
    refused BanExists rest = refl
    refused NoSuchBan rest = refl
    refused BadComment rest = refl
    refused Full rest = refl
    refused NotAllowed rest = refl

    again : (x : Verdict) (rest : List ℕ) → IsGoodAnswer x → answer_at (answer_bytes x ++ rest) ≡ Ok (x, rest)
    again (Taken n) rest good = ap (made Taken) (u32_part.again n rest good)
    again (Refused fault) rest good = refused fault rest

abbrev reply_of : ℕ × (ℕ × Verdict) → Reply
reply_of x = record { leaf = x.0; request = x.1.0; answer = x.1.1 }

reply_part : IsPart reply_at reply_bytes IsGoodReply
unfolding reply_at
reply_part =
    made_part (both_part u16_part (both_part u32_part answer_part)) reply_of (λ y. (y.leaf, (y.request, y.answer))) (λ y. refl) reply_bytes (λ x. refl)
    (λ y. refl)
    IsGoodReply (λ x g. g) (λ y g. g)

replies_part : (layout : Layout) → IsPart (replies_at layout) (listed reply_bytes) (λ x. AreListed IsGoodReply x × (are_kept_by layout x ≡ true))
unfolding replies_at replies_listed_at
replies_part layout = checked_part (listed_part reply_part) (are_kept_by layout)

records_part : (layout : Layout) → IsPart (records_at layout) (listed (record_bytes_by layout)) (AreListed (IsGoodRecordBy layout))
unfolding records_at
records_part First = listed_part record_part_old
records_part Second = listed_part record_part
records_part Third = listed_part record_part
records_part Fourth = listed_part record_part

-- ---- bases

abbrev fields_of : Base → ℕ × (ℕ × (List Record × (List Reply × (ℕ × List Request))))
fields_of b = (b.bot, (b.version, (b.records, (b.replies, (b.last_request, b.out)))))

-- a base that has a spelling, but for what its bot wants
record PartsPass (layout : Layout) (base : Base) : Type 0 where
  bot : base.bot < 2 ^ 16
  version : base.version < 2 ^ 32
  records : AreListed (IsGoodRecordBy layout) base.records
  replies : AreListed IsGoodReply base.replies × (are_kept_by layout base.replies ≡ true)
  out : (base.last_request < 2 ^ 32) × AreOutBy layout base.last_request base.out

parts_part : (layout : Layout) → IsPart (parts_at layout) (base_bytes_by layout) (PartsPass layout)
unfolding parts_at
parts_part layout =
    made_part (both_part u16_part (both_part u32_part (both_part (records_part layout) (both_part (replies_part layout) (out_part layout)))))
    base_of fields_of (λ y. refl) (base_bytes_by layout) (λ x. refl) (λ y. refl) (PartsPass layout)
    (λ x g. record { bot = g.0; version = g.1.0; records = g.1.1.0; replies = g.1.1.1.0; out = g.1.1.1.1 })
    (λ y g. (g.bot, (g.version, (g.records, (g.replies, g.out)))))

pub base_part : (layout : Layout) → IsPart (base_at layout) (base_bytes_by layout) (IsGoodBaseBy layout)
unfolding base_at
base_part layout = record {
  takes = λ bytes x rest fits e. (let t = (checked_part (parts_part layout) is_of_its_bot).takes bytes x rest fits e in (t.0, good_is x t.1.0 t.1.1));
  again = λ x rest good. (checked_part (parts_part layout) is_of_its_bot).again x rest (passes x good, good.of_its_bot);
}
  where
    good_is : (x : Base) → PartsPass layout x → is_of_its_bot x ≡ true → IsGoodBaseBy layout x
    good_is x p own = record {
      bot = p.bot;
      version = p.version;
      records = p.records;
      replies = p.replies.0;
      kept = p.replies.1;
      last_request = p.out.0;
      out = p.out.1;
      of_its_bot = own;
    }

    passes : (x : Base) → IsGoodBaseBy layout x → PartsPass layout x
    passes x g = record {
      bot = g.bot;
      version = g.version;
      records = g.records;
      replies = (g.replies, g.kept);
      out = (g.last_request, g.out);
    }

-- ---- bases that are all of their bytes

pub base_again_by : (layout : Layout) (base : Base) → IsGoodBaseBy layout base → base_in layout (base_bytes_by layout base) ≡ Some base
base_again_by layout base good = whole_again (base_part layout) base good

pub found_is : (layout : Layout) (bytes : List ℕ) (found : Option Base) → IsBytes bytes → found ≡ base_in layout bytes → IsBaseBy layout bytes found
found_is layout bytes None fits e = tt
found_is layout bytes (Some base) fits e = whole_spelled (base_part layout) bytes base fits (sym e)

pub is_found : (layout : Layout) (bytes : List ℕ) (base : Base) (found : Option Base) → found ≡ base_in layout bytes → IsGoodBaseBy layout base
    → bytes ≡ base_bytes_by layout base → found ≡ Some base
is_found layout bytes base found e good is = e ∙ ap (base_in layout) is ∙ base_again_by layout base good

-- ---- bases that may be written

-- what any layout spells has the spelling that is written
pub base_good : (layout : Layout) (base : Base) → IsGoodBaseBy layout base → IsGoodBase base
base_good layout base good = record {
  bot = good.bot;
  version = good.version;
  records = (good.records.0, all_map (IsGoodRecordBy layout) IsGoodRecord (record_good layout) base.records good.records.1);
  replies = good.replies;
  kept = kept_good layout base.replies good.kept;
  last_request = good.last_request;
  out = out_good layout base.last_request base.out good.last_request good.out;
  of_its_bot = good.of_its_bot;
}

pub good_now : (base : Base) → IsGoodBase base → IsGoodBaseBy Fourth base
good_now base good = record {
  bot = good.bot;
  version = good.version;
  records = good.records;
  replies = good.replies;
  kept = good.kept;
  last_request = good.last_request;
  out = good.out;
  of_its_bot = good.of_its_bot;
}

pub base_again : (base : Base) → IsGoodBase base → base_in Fourth (base_bytes base) ≡ Some base
base_again base good = base_again_by Fourth base (good_now base good)
