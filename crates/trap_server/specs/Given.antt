-- The control words that an answer gives, and their place in its bytes.
use Rattle.std.specs.Prelude.{ℕ, ◌+◌, ◌*◌, ◌==◌, if◌then◌else◌, List, Option, None, Some}
use Rattle.sbi_decode.specs.declared.world.World.{World}
use Rattle.sbi_decode.specs.declared.world.World.TheVariants.{Host, Enclave as InEnclave}
use Rattle.trap_server.specs.declared.host_words.HostWords.{HostWords}
use Rattle.trap_server.specs.declared.words.ControlWords.{ControlWords}
use Rattle.trap_server.specs.Tables.{enclave_words}
use Rattle.trap_server.specs.Words.{word_at}

-- the control words given at a trap, by the worlds that run on the hart before and after it and by
-- the host's words: an enclave's when a host enters it. Otherwise there are none, and the world
-- goes on with those with which it last ran there
abbrev pub words_given : World → World → HostWords → Option ControlWords
words_given Host (InEnclave id) came = Some (enclave_words came)
words_given Host Host came = None
words_given (InEnclave id) after came = None

-- the control words in bytes from a word on, in their order
abbrev pub control_at : List ℕ → ℕ → ControlWords
control_at bytes from = record {
  status = word_at bytes from;
  satp = word_at bytes (from + 1);
  mie = word_at bytes (from + 2);
  scounteren = word_at bytes (from + 3);
  senvcfg = word_at bytes (from + 4);
  hstatus = word_at bytes (from + 5);
  medeleg = word_at bytes (from + 6);
  mideleg = word_at bytes (from + 7);
  mode = word_at bytes (from + 8);
}

-- the control words in an answer: word 10 is their number, nine or none. They are after its lists,
-- whose number is in word 9
abbrev pub said_words : List ℕ → Option ControlWords
said_words answered = if word_at answered 10 == 9
    then Some (control_at answered (23 + 73 * word_at answered 9)) else None
