-- Facts about the words of each answer on which the code around the loop may rely.
use Rattle.std.specs.Prelude.{◌≡◌, ◌⊎◌, ℕ, ◌+◌, ◌*◌, ◌≤◌, List, length, ⊤}
use Rattle.pmp_encoding.specs.Limits.{limit_number}
use Rattle.platforms.specs.Platform.{IsLayout, PlatformLayout}
use Rattle.sbi_decode.specs.declared.world.World.TheVariants.{Host, Enclave as InEnclave}
use Rattle.monitor_core.specs.States.{MonitorState, opening_monitor}
use Rattle.trap_server.specs.Boot.{IsFirstAnswer}
use Rattle.trap_server.specs.Runs.{ServesTraps, next_trap, no_trap}
use Rattle.trap_server.specs.Words.{word_at}
use Rattle.trap_server.specs.declared.trap.Trap.{Trap}

-- the words of the answer to a trap, between these states of the monitor
pub record IsWellFormed (layout : PlatformLayout) (old : MonitorState) (trap : Trap)
    (new : MonitorState) (answered : List ℕ) : Type 0 where
  -- the answer has at most two lists, and its size matches its lists and control words
  pub lists : word_at answered 9 ≤ 2
  pub size : length answered ≡ 184 + 584 * word_at answered 9 + 8 * word_at answered 10
  -- the hart is the one that trapped, and its world is the host or the id of an enclave
  pub hart : word_at answered 1 ≡ trap.hart
  pub world : word_at answered 2 ≤ 64
  -- the world needs no more entries than a hart has
  pub used : word_at answered 5 ≤ limit_number layout.limit
  -- if there are two lists, the value is the id of an enclave
  pub made : word_at answered 9 ≡ 2 → (1 ≤ word_at answered 4) × (word_at answered 4 ≤ 64)
  -- an answer without lists zeroes no page and wakes no hart
  pub cleared : word_at answered 9 ≡ 0 → word_at answered 7 ≡ 0
  pub woken : word_at answered 9 ≡ 0 → word_at answered 8 ≡ 0
  -- there are nine control words if a host enters an enclave, and otherwise none
  pub control : ((word_at answered 10 ≡ 9) × (old.worlds trap.hart ≡ Host)
      × ((id : ℕ) × (new.worlds trap.hart ≡ InEnclave id)))
      ⊎ (word_at answered 10 ≡ 0)
  -- each of the three changes of register sets is of one of five kinds
  pub first : word_at answered 11 ≤ 4
  pub second : word_at answered 15 ≤ 4
  pub third : word_at answered 19 ≤ 4

-- the answer to each served trap is well-formed
abbrev pub AreWellFormed : PlatformLayout → {old : MonitorState} {read written : List ℕ}
    {new : MonitorState} → ServesTraps old read written new → Type 0
AreWellFormed layout no_trap = ⊤
AreWellFormed layout
    (next_trap {mid = mid} served trap frame more question answered changes new size is step) =
    AreWellFormed layout served × IsWellFormed layout mid trap new answered

-- every answer is well-formed, on every platform that obeys its rules
abbrev pub AnswersWell : Type 0
AnswersWell =
    (layout : PlatformLayout) (opened read written : List ℕ) (s : MonitorState)
    (served : ServesTraps (opening_monitor layout) read written s)
    → IsLayout layout → IsFirstAnswer layout opened → AreWellFormed layout served
