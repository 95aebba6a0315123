-- The effects of the parts of `run`.
use Rattle.std.specs.Prelude.{◌≡◌, ℕ, ◌+◌, List, [], ◌++◌}
use Rattle.byteorder.specs.Endian.{little_bytes}
use Rattle.enclave_table.specs.Enclaves.{EnclaveTable, Live}
use Rattle.enclave_table.specs.Digests.{AnswersWord}
use Rattle.enclave_table.specs.declared.enclave.Enclave.{Enclave}
use Rattle.map_text.specs.Texts.{measure_text}

-- the digest of the enclave with an id, by its four words
pub record IsDigest (table : EnclaveTable) (id : ℕ) (digest : List ℕ) : Type 0 where
  pub first : ℕ
  pub second : ℕ
  pub third : ℕ
  pub fourth : ℕ
  pub first_is : AnswersWord table id 0 first
  pub second_is : AnswersWord table id 1 second
  pub third_is : AnswersWord table id 2 third
  pub fourth_is : AnswersWord table id 3 fourth
  pub bytes : digest ≡ little_bytes 8 first
      ++ (little_bytes 8 second ++ (little_bytes 8 third ++ little_bytes 8 fourth))

-- the text for an id: the line of its digest, or nothing if no enclave with this id is live
pub data IsMeasureText (table : EnclaveTable) (id : ℕ) : List ℕ → Type 0 where
  live : (digest : List ℕ) → IsDigest table id digest
      → IsMeasureText table id (measure_text id digest)
  absent : ((enclave : Enclave) → ¬ Live table id enclave) → IsMeasureText table id []

-- the text for the ids from 1 to n
pub data AreMeasures (table : EnclaveTable) : ℕ → List ℕ → Type 0 where
  none : AreMeasures table 0 []
  more : (n : ℕ) (text last : List ℕ) → AreMeasures table n text → IsMeasureText table (n + 1) last
      → AreMeasures table (n + 1) (text ++ last)
