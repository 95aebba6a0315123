-- What is said of a state is said of it with other register sets, where registers are not spoken of.
use Rattle.std.proofs.Common.{ℕ, List, Bool, Option}
use Rattle.pmp_encoding.specs.declared.pages.PageRange.{PageRange}
use Rattle.sbi_decode.specs.Registers.{RegisterFile}
use Rattle.sbi_decode.specs.Runners.{Runner}
use Rattle.monitor_core.specs.States.{MonitorState}
use Rattle.monitor_core.specs.Worlds.{ArePlaced}
use Rattle.monitor_core.specs.declared.answer.Answer.{Answer}
use Rattle.monitor_core.specs.declared.set_changes.SetChanges.{SetChanges}
use Rattle.trap_server.specs.Answered.{IsAnswer}
use Rattle.trap_server.specs.Sets.{with_sets}
use Rattle.trap_server.specs.declared.answer.NewLists.{NewLists}
use Rattle.trap_server.specs.declared.words.ControlWords.{ControlWords}

pub placed_with : (s : MonitorState) (sets : Runner → RegisterFile) → ArePlaced s → ArePlaced (with_sets s sets)
placed_with s sets w = record { current = w.current; alone = w.alone; held = w.held; marked = w.marked }

pub placed_bare : (s : MonitorState) (sets : Runner → RegisterFile) → ArePlaced (with_sets s sets) → ArePlaced s
placed_bare s sets w = record { current = w.current; alone = w.alone; held = w.held; marked = w.marked }

pub answer_with :
    (s : MonitorState) (sets : Runner → RegisterFile) (given : Option ControlWords) (hart : ℕ) (answer : Answer) (cleared : Option PageRange)
    (woken : List Bool) (new : NewLists) (changes : SetChanges) (bytes : List ℕ) → IsAnswer s given hart answer cleared woken new changes bytes
    → IsAnswer (with_sets s sets) given hart answer cleared woken new changes bytes
answer_with s sets given hart answer cleared woken new changes bytes a =
    record { used = a.used; needs = a.needs; front = a.front; puts = a.puts; ends = a.ends }

pub answer_bare :
    (s : MonitorState) (sets : Runner → RegisterFile) (given : Option ControlWords) (hart : ℕ) (answer : Answer) (cleared : Option PageRange)
    (woken : List Bool) (new : NewLists) (changes : SetChanges) (bytes : List ℕ) → IsAnswer (with_sets s sets) given hart answer cleared woken new changes bytes
    → IsAnswer s given hart answer cleared woken new changes bytes
answer_bare s sets given hart answer cleared woken new changes bytes a =
    record { used = a.used; needs = a.needs; front = a.front; puts = a.puts; ends = a.ends }
