-- The output of `check`.
use Rattle.std.specs.Prelude.{ℕ, List}
use Rattle.pmp_encoding.specs.Limits.{limit_number}
use Rattle.pmp_match.specs.Meaning.{View}
use Rattle.certificate_check.specs.declared.refusal.CheckRefusal.{CheckRefusal}
use Rattle.certificate_check.specs.Certificates.{IsRight, RefusalStands}
use Rattle.certificate_check.specs.Refusals.{refusal_name, refusal_number}
use Rattle.certificate_format.specs.declared.header.Version.{Version}
use Rattle.certificate_format.specs.declared.header.Version.TheVariants.{One, Two}
use Rattle.map_text.specs.Texts.{accepted_text, accepted_of_text, refused_text}

-- a yes, which for a certificate of version 2 contains the limit
abbrev pub accepted_by : Version → ℕ → List ℕ
accepted_by One n = accepted_text n
accepted_by (Two limit) n = accepted_of_text n (limit_number limit)

-- the line and the status of `check` for a certificate of a view: a yes with 0 if it is right, and
-- otherwise a no with 1
pub data IsVerdict (view : View) (bytes : List ℕ) : List ℕ → ℕ → Type 0 where
  yes : (n : ℕ) (right : IsRight view bytes n)
      → IsVerdict view bytes (accepted_by right.version n) 0
  no :
      (refusal : CheckRefusal) → ((n : ℕ) → IsRight view bytes n → ⊥)
      → RefusalStands view bytes refusal
      → IsVerdict view bytes (refused_text (refusal_number refusal) (refusal_name refusal)) 1
