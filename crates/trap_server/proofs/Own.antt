-- An enclave is given its own words.
use Rattle.std.proofs.Common.{◌≡◌, ◌∙◌, ℕ, None, bit_and, bit_or, ap, refl}
use Rattle.sbi_decode.specs.declared.world.World.{World}
use Rattle.sbi_decode.specs.declared.world.World.TheVariants.{Host, Enclave as InEnclave}
use Rattle.trap_server.specs.declared.host_words.HostWords.{HostWords}
use Rattle.trap_server.specs.declared.words.ControlWords.{ControlWords}
use Rattle.trap_server.specs.Tables.{enclave_words, hosts_interrupts, monitors_interrupts, time, with_floats}
use Rattle.trap_server.specs.Given.{words_given}
use Rattle.trap_server.specs.Laws.{GivesEachItsOwn}

with_these : ℕ → ℕ → ControlWords
with_these mie scounteren = record {
  status = with_floats;
  satp = 0;
  mie = bit_or monitors_interrupts mie;
  scounteren = scounteren;
  senvcfg = 0;
  hstatus = 0;
  medeleg = 0;
  mideleg = 0;
  mode = 0;
}

sees_nothing : (host other : HostWords) → bit_and host.mie hosts_interrupts ≡ bit_and other.mie hosts_interrupts
    → bit_and host.scounteren time ≡ bit_and other.scounteren time → enclave_words host ≡ enclave_words other
unfolding with_these
sees_nothing host other mie scounteren = ap (λ n. with_these n (bit_and host.scounteren time)) mie
    ∙ ap (with_these (bit_and other.mie hosts_interrupts)) scounteren

keeps : (before : World) (came : HostWords) → words_given before Host came ≡ None
keeps Host came = refl
keeps (InEnclave id) came = refl

pub each_its_own : GivesEachItsOwn
each_its_own = record {
  enclave_enters = λ id host. refl;
  user = λ host. refl;
  host_keeps = keeps;
  enclave_goes_on = λ id next came. refl;
  enclave_sees_nothing = sees_nothing;
}
