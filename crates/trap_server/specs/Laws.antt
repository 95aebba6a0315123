-- The laws of the control words that are given at a trap.
use Rattle.std.specs.Prelude.{◌≡◌, ℕ, bit_and, None, Some}
use Rattle.sbi_decode.specs.declared.world.World.{World}
use Rattle.sbi_decode.specs.declared.world.World.TheVariants.{Host, Enclave as InEnclave}
use Rattle.trap_server.specs.declared.host_words.HostWords.{HostWords}
use Rattle.trap_server.specs.Tables.{enclave_words, hosts_interrupts, time}
use Rattle.trap_server.specs.Given.{words_given}

-- an enclave gets its own words, and no world gets those of another
pub record GivesEachItsOwn : Type 0 where
  -- an enclave that a host enters gets the table's words and runs in user mode
  pub enclave_enters : (id : ℕ) (host : HostWords)
      → words_given Host (InEnclave id) host ≡ Some (enclave_words host)
  pub user : (host : HostWords) → (enclave_words host).mode ≡ 0
  -- a host gets none: it goes on with those that its hart kept for it
  pub host_keeps : (before : World) (came : HostWords) → words_given before Host came ≡ None
  -- an enclave that goes on gets none either: it has those with which it was entered
  pub enclave_goes_on : (id next : ℕ) (came : HostWords)
      → words_given (InEnclave id) (InEnclave next) came ≡ None
  -- the table's words are the same for any two hosts that enable the same of their interrupts and
  -- agree on whether user mode may read the time
  pub enclave_sees_nothing : (host other : HostWords)
      → bit_and host.mie hosts_interrupts ≡ bit_and other.mie hosts_interrupts
      → bit_and host.scounteren time ≡ bit_and other.scounteren time
      → enclave_words host ≡ enclave_words other
