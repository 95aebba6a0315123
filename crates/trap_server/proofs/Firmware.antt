-- What holds after every list of traps, by induction over them.
use Rattle.std.proofs.Common.{◌≡◌, ◌≢◌, ◌∙◌, ◌<◌, ◌≤◌, ◌==◌, ◌&&◌, ◌/◌, ◌%◌, ◌^◌, ◌++◌, ℕ, zero, suc, nat_lt, Bool, true, false, List, [], ◌∷◌, drop, Option, None}
use Rattle.std.proofs.Common.{if◌then◌else◌, slice_index_or, refl, ap, sym, subst, lit<, arith}
use Rattle.std.proofs.lemmas.Bool.{both_ways, eq-eqb, eqb-true, ne_eqb, true≢false}
use Rattle.pmp_encoding.specs.Limits.{limit_number}
use Rattle.pmp_encoding.specs.Lists.{MeansList}
use Rattle.pmp_encoding.specs.Views.{SameView, View}
use Rattle.pmp_encoding.specs.declared.limit.Limit.{Limit}
use Rattle.pmp_encoding.specs.declared.pages.PageRange.{PageRange}
use Rattle.pmp_encoding.specs.declared.region.Entry.{Entry}
use Rattle.platforms.specs.Platform.{IsLayout, PlatformLayout}
use Rattle.sbi_decode.specs.Calls.{call_of}
use Rattle.sbi_decode.specs.Registers.{RegisterFile}
use Rattle.sbi_decode.specs.Runners.{Runner}
use Rattle.monitor_core.specs.SetChanges.{changed}
use Rattle.monitor_core.specs.declared.set_changes.SetChanges.{SetChanges}
use Rattle.trap_server.specs.Sets.{AreThere, with_sets}
use Rattle.trap_server.proofs.Bare.{placed_bare, placed_with}
use Rattle.sbi_decode.specs.declared.world.World.{World}
use Rattle.sbi_decode.specs.declared.world.World.TheVariants.{Host, Enclave as InEnclave}
use Rattle.enclave_table.specs.Enclaves.{EnclaveTable}
use Rattle.enclave_table.specs.Fewest.{IsListOf}
use Rattle.enclave_table.specs.Tables.{IsCurrent, IsTable}
use Rattle.enclave_table.specs.Views.{current_view}
use Rattle.enclave_table.proofs.Places.{live_above, live_inside}
use Rattle.enclave_table.proofs.SameViews.{fewest_same}
use Rattle.monitor_core.specs.Answers.{world_number}
use Rattle.monitor_core.specs.Changes.{past_call, with_running}
use Rattle.monitor_core.specs.States.{MonitorState, opening_monitor, running_registers}
use Rattle.monitor_core.specs.Worlds.{ArePlaced}
use Rattle.monitor_core.specs.declared.answer.Answer.{Answer}
use Rattle.monitor_core.proofs.Cases.{both}
use Rattle.monitor_core.proofs.Currents.{none_live}
use Rattle.monitor_core.proofs.Layouts.{call_keeps_layout, interrupt_keeps_layout}
use Rattle.monitor_core.proofs.SoundTables.{call_keeps_table, interrupt_keeps_table, opening_sound}
use Rattle.monitor_core.proofs.WorldsKept.{call_keeps_worlds, interrupt_keeps_worlds, opened, putting_keeps_worlds, waking_keeps_worlds}
use Rattle.trap_server.specs.declared.answer.Head.{Head}
use Rattle.trap_server.specs.declared.answer.NewLists.{NewLists}
use Rattle.trap_server.specs.declared.answer.NewLists.TheVariants as lists
use Rattle.trap_server.specs.declared.trap.TrapEvent.{TrapEvent}
use Rattle.trap_server.specs.declared.trap.TrapEvent.TheVariants.{Call, Stop}
use Rattle.trap_server.specs.declared.trap.Trap.{Trap}
use Rattle.trap_server.specs.declared.words.ControlWords.{ControlWords}
use Rattle.trap_server.specs.Answered.{AreAwake, IsAnswer, no_answer, unmarked}
use Rattle.trap_server.specs.Answers.{front_bytes, given_bytes, list_bytes, list_count, lists_bytes}
use Rattle.trap_server.specs.Boot.{IsFirstAnswer, no_changes, others}
use Rattle.trap_server.specs.Firmware.{FirmwareHeadline, HasFewest, IsThere, KeepsTrap, is_new, list_after, list_last, loaded_address, loaded_after, loaded_cfg}
use Rattle.trap_server.specs.Firmware.{loaded_last, loaded_pairs}
use Rattle.trap_server.specs.Runs.{ServesTraps, next_trap, no_trap}
use Rattle.trap_server.specs.Service.{ServesAs, given_at}
use Rattle.trap_server.specs.Words.{word_at}
use Rattle.trap_server.proofs.LoadedBytes.{bit_there, first_list, hart_back, list_back, off_back, second_list, value_back, wake_back, world_back}
use Rattle.trap_server.proofs.Said.{ends, head, put_all, says_count}
use Rattle.trap_server.proofs.Served.{quiet}
use Rattle.trap_server.proofs.TrapsKept.{trap_kept}

-- the bytes of a list have the entries that were put into them
put_fewest : (entries : List Entry) (rest bytes : List ℕ) (limit : Limit) (view : View) → bytes ≡ list_bytes entries ++ rest → IsListOf limit view entries
    → HasFewest bytes limit view
put_fewest entries rest bytes limit view is list = record {
  entries = entries;
  fewest = list.fewest;
  room = list.room;
  list = subst (λ b. MeansList (loaded_pairs b 0 (limit_number limit)) entries) (sym is) (list_back entries rest limit list.room);
  off = λ i past low. subst (λ b. (loaded_cfg b i ≡ 0) × (loaded_address b i ≡ 0)) (sym is) (off_back entries rest i past low);
}

-- the same list for a view that is the same
same_fewest : (bytes : List ℕ) (limit : Limit) (view other : View) → SameView view other → HasFewest bytes limit view → HasFewest bytes limit other
same_fewest bytes limit view other same f = record {
  entries = f.entries;
  fewest = fewest_same view other f.entries same f.fewest;
  room = f.room;
  list = f.list;
  off = f.off;
}

-- what an answer says in its first words, and its lists
module _ (s : MonitorState) (given : Option ControlWords) (hart : ℕ) (answer : Answer) (cleared : Option PageRange) (woken : List Bool) (new : NewLists)
    (changes : SetChanges) (bytes : List ℕ) (a : IsAnswer s given hart answer cleared woken new changes bytes) where
  abbrev front : Head
  front = head s given hart answer cleared woken new changes bytes a

  abbrev rest : List ℕ
  rest = ends s given hart answer cleared woken new changes bytes a

  put : bytes ≡ front_bytes front changes ++ rest
  put = put_all s given hart answer cleared woken new changes bytes a

  says_hart : hart < 4 → word_at bytes 1 ≡ hart
  says_hart low = ap (λ b. word_at b 1) put ∙ hart_back front changes rest low

  says_world : world_number (s.worlds hart) < 2 ^ 64 → word_at bytes 2 ≡ world_number (s.worlds hart)
  says_world low = ap (λ b. word_at b 2) put ∙ world_back front changes rest low

  says_value : answer.value < 2 ^ 64 → word_at bytes 4 ≡ answer.value
  says_value low = ap (λ b. word_at b 4) put ∙ value_back front changes rest low

  says_woken : (other : ℕ) → other < 4 → (word_at bytes 8 / 2 ^ other % 2 == 1) ≡ slice_index_or woken other false
  says_woken other low = ap (λ n. n / 2 ^ other % 2 == 1) (ap (λ b. word_at b 8) put ∙ wake_back front changes rest) ∙ bit_there woken other low

  says_first : (host : List Entry) (more : List (List Entry)) → a.puts.are ≡ host ∷ more
      → drop 184 bytes ≡ list_bytes host ++ (lists_bytes more ++ given_bytes given)
  says_first host more are = ap (drop 184) (put ∙ ap (λ ls. front_bytes front changes ++ (lists_bytes ls ++ given_bytes given)) are)
      ∙ first_list front changes host more (given_bytes given)

  says_second : (host made : List Entry) → a.puts.are ≡ host ∷ (made ∷ []) → drop 768 bytes ≡ list_bytes made ++ ([] ++ given_bytes given)
  says_second host made are = ap (drop 768) (put ∙ ap (λ ls. front_bytes front changes ++ (lists_bytes ls ++ given_bytes given)) are)
      ∙ second_list front changes host made [] (given_bytes given)

-- the list of the host, where it is new, and that of an enclave that was made
host_listed :
    (new : NewLists) (s : MonitorState) (given : Option ControlWords) (hart : ℕ) (answer : Answer) (cleared : Option PageRange) (woken : List Bool)
    (changes : SetChanges) (bytes : List ℕ) → IsAnswer s given hart answer cleared woken new changes bytes → is_new new answer.value Host ≡ true
    → HasFewest (drop 184 bytes) s.table.layout.limit (current_view s.table Host)
host_listed lists.Nothing s given hart answer cleared woken changes bytes a is = absurd (true≢false (sym is))
host_listed lists.Host s given hart answer cleared woken changes bytes a is =
    put_fewest a.puts.lists.0 ([] ++ given_bytes given) (drop 184 bytes) s.table.layout.limit (current_view s.table Host)
    (says_first s given hart answer cleared woken lists.Host changes bytes a a.puts.lists.0 [] a.puts.lists.2) a.puts.lists.1
host_listed lists.HostAndMade s given hart answer cleared woken changes bytes a is =
    let more = a.puts.lists.1 ∷ [] in
    put_fewest a.puts.lists.0 (lists_bytes more ++ given_bytes given) (drop 184 bytes) s.table.layout.limit (current_view s.table Host)
    (says_first s given hart answer cleared woken lists.HostAndMade changes bytes a a.puts.lists.0 more a.puts.lists.4) a.puts.lists.2

made_listed :
    (new : NewLists) (s : MonitorState) (given : Option ControlWords) (hart : ℕ) (answer : Answer) (cleared : Option PageRange) (woken : List Bool)
    (changes : SetChanges) (bytes : List ℕ) → IsAnswer s given hart answer cleared woken new changes bytes → new ≡ lists.HostAndMade
    → HasFewest (drop 768 bytes) s.table.layout.limit (current_view s.table (InEnclave answer.value))
made_listed lists.Nothing s given hart answer cleared woken changes bytes a is = absurd (let z : lists.Nothing ≡ lists.HostAndMade = is in cc)
made_listed lists.Host s given hart answer cleared woken changes bytes a is = absurd (let z : lists.Host ≡ lists.HostAndMade = is in cc)
made_listed lists.HostAndMade s given hart answer cleared woken changes bytes a is =
    put_fewest a.puts.lists.1 ([] ++ given_bytes given) (drop 768 bytes) s.table.layout.limit (current_view s.table (InEnclave answer.value))
    (says_second s given hart answer cleared woken lists.HostAndMade changes bytes a a.puts.lists.0 a.puts.lists.1 a.puts.lists.4) a.puts.lists.3

-- the list of a world after an answer is right, where a new one is, and one that is kept
module _ (value : ℕ) (table : EnclaveTable) (limit : Limit) (answered : List ℕ) (before : ℕ → List ℕ) where
  abbrev Right : World → List ℕ → Type 0
  Right world bytes = HasFewest bytes limit (current_view table world)

  next_list :
      (new : NewLists) (world : World) → IsThere table world → word_at answered 9 ≡ list_count new
      → (new ≡ lists.HostAndMade → word_at answered 4 ≡ value) → (is_new new value Host ≡ true → Right Host (drop 184 answered))
      → (new ≡ lists.HostAndMade → Right (InEnclave value) (drop 768 answered))
      → (is_new new value world ≡ false → Right world (before (world_number world)))
      → Right world (list_after answered before (world_number world))
  next_list lists.Nothing Host there count named host made kept =
      subst (Right Host) (sym (ap (λ n. if nat_lt 0 n then drop 184 answered else before 0) count)) (kept refl)
  next_list lists.Host Host there count named host made kept =
      subst (Right Host) (sym (ap (λ n. if nat_lt 0 n then drop 184 answered else before 0) count)) (host refl)
  next_list lists.HostAndMade Host there count named host made kept =
      subst (Right Host) (sym (ap (λ n. if nat_lt 0 n then drop 184 answered else before 0) count)) (host refl)
  next_list new (InEnclave zero) there count named host made kept =
      let above = live_above table.enclaves 0 there.0 there.1 in absurd (omega (arith, above))
  next_list lists.Nothing (InEnclave (suc n)) there count named host made kept =
      subst (Right (InEnclave (suc n)))
      (sym (ap (λ c. if c == 2 && word_at answered 4 == suc n then drop 768 answered else before (suc n)) count)) (kept refl)
  next_list lists.Host (InEnclave (suc n)) there count named host made kept =
      subst (Right (InEnclave (suc n)))
      (sym (ap (λ c. if c == 2 && word_at answered 4 == suc n then drop 768 answered else before (suc n)) count)) (kept refl)
  next_list lists.HostAndMade (InEnclave (suc n)) there count named host made kept =
      let is = ap (λ c. if c == 2 && word_at answered 4 == suc n then drop 768 answered else before (suc n)) count
      ∙ ap (λ v. if v == suc n then drop 768 answered else before (suc n)) (named refl) in
      both (value == suc n)
      (λ yes.
      let same : value ≡ suc n = eqb-true value (suc n) yes in
      subst (Right (InEnclave (suc n))) (sym (is ∙ ap (λ t. if t then drop 768 answered else before (suc n)) yes))
      (subst (λ k. Right (InEnclave k) (drop 768 answered)) same (made refl)))
      (λ no. subst (Right (InEnclave (suc n))) (sym (is ∙ ap (λ t. if t then drop 768 answered else before (suc n)) no)) (kept no))

-- the number of a world that is there is small
number_small : (table : EnclaveTable) (world : World) → IsTable table → IsThere table world → world_number world < 2 ^ 64
number_small table Host sound there = lit< tt
number_small table (InEnclave id) sound there =
    let inside = live_inside table.enclaves id there.0 there.1 in
    let long = sound.places in
    omega (arith, inside, long)

-- a world that runs is there
runs_there : (table : EnclaveTable) (world : World) → IsCurrent table world → IsThere table world
runs_there table Host current = tt
runs_there table (InEnclave id) current = (current.0, current.1)

-- a trap, and the lists before it
module _ (s : MonitorState) (trap : Trap) (changes : SetChanges) (read question answered : List ℕ) (new : MonitorState)
    (before : ℕ → List ℕ) (k : KeepsTrap s trap changes read question answered new) (layout : new.table.layout ≡ s.table.layout)
    (sound : IsTable new.table) (placed : ArePlaced new) (was : (world : World) → IsThere s.table world
    → HasFewest (before (world_number world)) s.table.layout.limit (current_view s.table world)) where
  abbrev limit : Limit
  limit = new.table.layout.limit

  abbrev given : Option ControlWords
  given = given_at s new trap

  abbrev after : ℕ → List ℕ
  after = list_after answered before

  -- the lists are right after it
  pub next_lists : (world : World) → IsThere new.table world → HasFewest (after (world_number world)) limit (current_view new.table world)
  next_lists world there =
      next_list k.answer.value new.table limit answered before k.lists world there
      (says_count new given trap.hart k.answer k.cleared k.woken k.lists changes answered k.says)
      (λ is. says_value new given trap.hart k.answer k.cleared k.woken k.lists changes answered k.says
      (number_small new.table (InEnclave k.answer.value) sound (k.made is)))
      (host_listed k.lists new given trap.hart k.answer k.cleared k.woken changes answered k.says)
      (made_listed k.lists new given trap.hart k.answer k.cleared k.woken changes answered k.says)
      (λ off.
      let same = k.keeps world there off in
      same_fewest (before (world_number world)) limit (current_view s.table world) (current_view new.table world) same.1
      (subst (λ l. HasFewest (before (world_number world)) l.limit (current_view s.table world)) (sym layout) (was world same.0)))

  -- what a hart loaded last is right after it where it was before
  pub next_bank : (loaded : List ℕ) (other : ℕ) → trap.hart < s.table.layout.harts → s.table.layout.harts ≤ 4 → other < s.table.layout.harts
      → HasFewest loaded s.table.layout.limit (current_view s.table (s.worlds other))
      → HasFewest (loaded_after answered after loaded other) limit (current_view new.table (new.worlds other))
  next_bank loaded other low most under right =
      let hart = trap.hart in
      let four : hart < 4 = omega (arith, low, most) in
      let fourth : other < 4 = omega (arith, under, most) in
      let under_new : other < new.table.layout.harts = subst (λ l. other < l.harts) (sym layout) under in
      let Right = λ (bytes : List ℕ). HasFewest bytes limit (current_view new.table (new.worlds other)) in
      let named = says_hart new given hart k.answer k.cleared k.woken k.lists changes answered k.says four in
      let bit = says_woken new given hart k.answer k.cleared k.woken k.lists changes answered k.says other fourth in
      let there = runs_there new.table (new.worlds other) (placed.current other under_new) in
      let rest = if word_at answered 8 / 2 ^ other % 2 == 1 then after 0 else loaded in
      both (other == hart)
      (λ yes.
      let same : other ≡ hart = eqb-true other hart yes in
      let number = number_small new.table (new.worlds other) sound there in
      let world : word_at answered 2 ≡ world_number (new.worlds other) =
      says_world new given hart k.answer k.cleared k.woken k.lists changes answered k.says (subst (λ h. world_number (new.worlds h) < 2 ^ 64) same number)
      ∙ ap (λ h. world_number (new.worlds h)) (sym same) in
      subst Right (sym (ap (λ t. if t then after (word_at answered 2) else rest) (eq-eqb (word_at answered 1) other (named ∙ sym same)) ∙ ap after world))
      (next_lists (new.worlds other) there))
      (λ no.
      let differs : other ≢ hart = λ same. both_ways (other == hart) no (eq-eqb other hart same) in
      let passed = ap (λ t. if t then after (word_at answered 2) else rest)
      (ap (λ n. n == other) named ∙ ne_eqb hart other (λ same. differs (sym same))) in
      both (slice_index_or k.woken other false)
      (λ on.
      let host = k.wakes other under on in
      subst Right (sym (passed ∙ ap (λ t. if t then after 0 else loaded) (bit ∙ on)))
      (subst (λ w. HasFewest (after 0) limit (current_view new.table w)) (sym host) (next_lists Host tt)))
      (λ off. subst Right (sym (passed ∙ ap (λ t. if t then after 0 else loaded) (bit ∙ off)))
      (same_fewest loaded limit (current_view s.table (s.worlds other)) (current_view new.table (new.worlds other)) (k.others other differs under off)
      (subst (λ l. HasFewest loaded l.limit (current_view s.table (s.worlds other))) (sym layout) right))))

-- a state from which traps are served
record IsGood (layout : PlatformLayout) (s : MonitorState) : Type 0 where
  pub table : IsTable s.table
  pub platform : s.table.layout ≡ layout
  pub worlds : ArePlaced s
  pub awake : AreAwake s

woken_placed : (n : ℕ) (s : MonitorState) → ArePlaced s → ArePlaced (unmarked n s)
woken_placed zero s w = w
woken_placed (suc n) s w = waking_keeps_worlds (unmarked n s) n (woken_placed n s w)

-- after the harts were woken
woken_good : (layout : PlatformLayout) (mid new : MonitorState) → layout.harts ≤ 4 → new ≡ unmarked 4 mid → IsTable mid.table → mid.table.layout ≡ layout
    → ArePlaced mid → IsGood layout new
woken_good layout mid new most woken table platform worlds = record {
  table = subst (λ (y : MonitorState). IsTable y.table) (sym woken) table;
  platform = ap (λ (y : MonitorState). y.table.layout) woken ∙ platform;
  worlds = subst ArePlaced (sym woken) (woken_placed 4 mid worlds);
  awake = quiet mid new woken (subst (λ l. l.harts ≤ 4) (sym platform) most);
}

next_good :
    (event : TrapEvent) (layout : PlatformLayout) (s : MonitorState) (trap : Trap) (changes : SetChanges)
    (read question answered : List ℕ) (new : MonitorState) → layout.harts ≤ 4 → trap.hart < s.table.layout.harts → IsGood layout s
    → ServesAs event s trap changes read question answered new → IsGood layout new
next_good Call layout s trap changes read question answered new most low good x =
    let hart = trap.hart in
    let file = past_call (running_registers s hart) in
    let t = with_running s hart file in
    let a = x.answers in
    woken_good layout a.mid new most a.woken (call_keeps_table (call_of file) (λ parts. x.digest) t hart x.answer a.cleared a.mid a.step good.table)
    (call_keeps_layout (call_of file) (λ parts. x.digest) t hart x.answer a.cleared a.mid a.step ∙ good.platform)
    (call_keeps_worlds (call_of file) (λ parts. x.digest) t hart x.answer a.cleared a.mid low (good.awake hart low) a.step
    (putting_keeps_worlds s hart file good.worlds))
next_good Stop layout s trap changes read question answered new most low good x =
    let hart = trap.hart in
    let t = s in
    let world = s.worlds hart in
    woken_good layout x.mid new most x.woken (interrupt_keeps_table world t hart x.mid x.step good.table)
    (interrupt_keeps_layout world t hart x.mid x.step ∙ good.platform)
    (interrupt_keeps_worlds world t hart x.mid refl low (good.awake hart low) x.step good.worlds)

-- it is good whatever its register sets are
good_with : (layout : PlatformLayout) (s : MonitorState) (sets : Runner → RegisterFile) → IsGood layout s → IsGood layout (with_sets s sets)
good_with layout s sets g = record { table = g.table; platform = g.platform; worlds = placed_with s sets g.worlds; awake = g.awake }

good_bare : (layout : PlatformLayout) (s : MonitorState) (sets : Runner → RegisterFile) → IsGood layout (with_sets s sets) → IsGood layout s
good_bare layout s sets g = record { table = g.table; platform = g.platform; worlds = placed_bare s sets g.worlds; awake = g.awake }

-- at the opening all harts have the host's list, and no other world is there
first_bank : (layout : PlatformLayout) (first : List ℕ) → IsFirstAnswer layout first
    → HasFewest (drop 184 first) layout.limit (current_view (opening_monitor layout).table Host)
first_bank layout first a = host_listed lists.Host (opening_monitor layout) None 0 no_answer None (others layout.harts) no_changes first a refl

first_lists : (layout : PlatformLayout) (first : List ℕ) (world : World) → IsFirstAnswer layout first → IsThere (opening_monitor layout).table world
    → HasFewest (drop 184 first) layout.limit (current_view (opening_monitor layout).table world)
first_lists layout first Host a there = first_bank layout first a
first_lists layout first (InEnclave id) a there = absurd (none_live layout id there.0 there.1)

pub firmware_kept :
    (layout : PlatformLayout) (first read written : List ℕ) (s : MonitorState)
    (served : ServesTraps (opening_monitor layout) read written s) → IsLayout layout → IsFirstAnswer layout first
    → FirmwareHeadline layout first read written s served
firmware_kept layout first read written s no_trap rules answer = record {
  table = opening_sound layout rules;
  platform = refl;
  worlds = opened layout;
  awake = λ hart low. refl;
  lists = λ world there. first_lists layout first world answer there;
  banks = λ hart low. first_bank layout first answer;
  each = tt;
}
firmware_kept layout first read written s (next_trap {read = r} {written = w} {mid = mid} served trap frame more question answered changes new
    size is step) rules answer =
    let before = firmware_kept layout first r w mid served rules answer in
    let good : IsGood layout mid = record { table = before.table; platform = before.platform; worlds = before.worlds; awake = before.awake } in
    let most : mid.table.layout.harts ≤ 4 = subst (λ l. l.harts ≤ 4) (sym before.platform) rules.four_harts in
    let trapped : Runner → RegisterFile = λ who. trap.registers in
    let one = step trapped refl in
    let there = changed trap.hart changes trapped in
    let after_it = next_good trap.event layout (with_sets mid trapped) trap changes more question answered (with_sets new there)
    rules.four_harts is.known (good_with layout mid trapped good) one in
    let next = good_bare layout new there after_it in
    let each : (sets : Runner → RegisterFile) → AreThere mid trap sets
    → KeepsTrap (with_sets mid sets) trap changes more question answered (with_sets new (changed trap.hart changes sets)) = λ sets are.
    trap_kept (with_sets mid sets) trap changes more question answered (with_sets new (changed trap.hart changes sets)) (record {
      known = is.known;
      awake = before.awake trap.hart is.known;
      most = most;
      table = before.table;
      placed = placed_with mid sets before.worlds;
    }) are (step sets are) in
    let k = each trapped refl in
    let layouts = next.platform ∙ sym before.platform in
    let was : (world : World) → IsThere mid.table world
    → HasFewest (list_last first served (world_number world)) mid.table.layout.limit (current_view mid.table world) = λ world is_there.
    subst (λ l. HasFewest (list_last first served (world_number world)) l.limit (current_view mid.table world)) (sym before.platform)
    (before.lists world is_there) in
    let after = list_after answered (list_last first served) in
    record {
      table = next.table;
      platform = next.platform;
      worlds = next.worlds;
      awake = next.awake;
      lists = λ world is_there. subst (λ l. HasFewest (after (world_number world)) l.limit (current_view new.table world)) next.platform
          (next_lists (with_sets mid trapped) trap changes more question answered (with_sets new there) (list_last first served) k layouts next.table
          after_it.worlds was world is_there);
      banks = λ hart low.
          let under : hart < mid.table.layout.harts = subst (λ l. hart < l.harts) (sym before.platform) low in
          let right = subst (λ l. HasFewest (loaded_last first served hart) l.limit (current_view mid.table (mid.worlds hart))) (sym before.platform)
          (before.banks hart low) in
          subst (λ l. HasFewest (loaded_after answered after (loaded_last first served hart) hart) l.limit (current_view new.table (new.worlds hart)))
          next.platform
          (next_bank (with_sets mid trapped) trap changes more question answered (with_sets new there) (list_last first served) k layouts next.table
          after_it.worlds was
          (loaded_last first served hart) hart is.known most under right);
      each = (before.each, each);
    }
