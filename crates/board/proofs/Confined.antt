-- A hart that can confine an enclave does so with an enclave's words.
use Rattle.std.proofs.Common.{◌≡◌, ◌∙◌, ℕ, bit_and, bit_or, ap, sym}
use Rattle.std.proofs.lemmas.Nat.{and_assoc, and_comm, and_or_apart, or_comm}
use Rattle.trap_server.specs.Tables.{enclave_words, hosts_interrupts, monitors_interrupts}
use Rattle.trap_server.specs.declared.host_words.HostWords.{HostWords}
use Rattle.board.specs.Held.{CanConfine, Confines, ControlRegisters, held}

-- bits of two words that are apart from others
both_apart : (a b h m : ℕ) → bit_and a m ≡ 0 → bit_and b m ≡ 0 → bit_and (bit_or a (bit_and h b)) m ≡ 0
both_apart a b h m first second =
    ap (λ w. bit_and w m) (or_comm a (bit_and h b)) ∙ and_or_apart m (bit_and h b) a first ∙ and_assoc m h b ∙ ap (bit_and h) second ∙ and_comm h 0

-- what a register holds of such a word
held_apart : (word keeps fixed m : ℕ) → bit_and fixed m ≡ 0 → bit_and word m ≡ 0 → bit_and (bit_or (bit_and word keeps) fixed) m ≡ 0
held_apart word keeps fixed m apart words =
    and_or_apart m (bit_and word keeps) fixed apart ∙ and_assoc m word keeps ∙ ap (bit_and word) (and_comm keeps m) ∙ sym (and_assoc keeps word m)
    ∙ ap (λ w. bit_and w keeps) words

pub confined : (hart : ControlRegisters) (host : HostWords) → CanConfine hart → Confines (held hart (enclave_words host))
confined hart host can = record {
  mode = can.mode;
  satp = can.satp;
  exceptions = can.exceptions;
  interrupts = held_apart (enclave_words host).mie hart.keeps.mie hart.fixed.mie hart.fixed.mideleg can.others
      (both_apart monitors_interrupts hosts_interrupts host.mie hart.fixed.mideleg can.monitors can.hosts);
  guests = can.guests;
}
