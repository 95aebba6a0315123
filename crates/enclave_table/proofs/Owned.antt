-- Each page has one owner, and the host's view goes by it.
use Rattle.std.proofs.Common.{ℕ, ◌≡◌, ◌∙◌, ◌+◌, ◌-◌, ◌<◌, suc, zero, sym, ap, refl, true, false, ◌||◌, cond, List, [], ◌∷◌, length, get_or, Option, None, Some}
use Rattle.std.proofs.Common.{arith}
use Rattle.std.proofs.lemmas.Bool.{both_ways, or_left, or_right, or_parts, false_from_ne_true}
use Rattle.std.proofs.lemmas.Option.{same_Some}
use Rattle.pmp_encoding.specs.declared.perm.Perm.TheVariants.{NoAccess}
use Rattle.platforms.specs.Platform.{platform_perm}
use Rattle.enclave_table.specs.Enclaves.{EnclaveTable, enclave_at, Live}
use Rattle.measurement.specs.Requests.{is_private, is_shared, is_part}
use Rattle.enclave_table.specs.Owners.{IsOwner}
use Rattle.enclave_table.specs.Views.{host_view, host_perm}
use Rattle.enclave_table.proofs.ShortNames.{any_private, has_private}
use Rattle.enclave_table.specs.Tables.{IsTable}
use Rattle.enclave_table.specs.declared.enclave.Enclave.{Enclave}
use Rattle.enclave_table.specs.declared.owner.Owner.{Owner}
use Rattle.enclave_table.specs.declared.owner.Owner.TheVariants.{Monitor, Private, Shared, Host}
use Rattle.enclave_table.proofs.Places.{at_place, live_place, live_inside}
use Rattle.enclave_table.proofs.Placed.{any_none}
use Rattle.platforms.specs.Ranges.{has_page}

part_private : (e : Enclave) (page : ℕ) → is_private e.parts page ≡ true → is_part e.parts page ≡ true
part_private e page h = or_left (is_private e.parts page) (is_shared e.parts page) h

part_shared : (e : Enclave) (page : ℕ) → is_shared e.parts page ≡ true → is_part e.parts page ≡ true
part_shared e page h = or_right (is_private e.parts page) (is_shared e.parts page) h

-- not the monitor's and an enclave's
apart_monitor : (table : EnclaveTable) (id : ℕ) (e : Enclave) (page : ℕ) → IsTable table → Live table id e → is_part e.parts page ≡ true
    → has_page table.layout.monitor page ≡ true → ⊥
apart_monitor table id e page is live part monitor = both_ways (has_page table.layout.monitor page) ((is.sound id e live).not_monitor page part) monitor

-- not private to one and shared of one
apart_parts :
    (table : EnclaveTable) (id other : ℕ) (e f : Enclave) (page : ℕ) → IsTable table → Live table id e → Live table other f → is_private e.parts page ≡ true
    → is_shared f.parts page ≡ true → ⊥
apart_parts table id other e f page is live live_f private shared =
    let same : id ≡ other = is.alone id other e f page live live_f (part_private e page private) (part_shared f page shared) in
    let one : e ≡ f = same_Some e f (sym live ∙ ap (enclave_at table.enclaves) same ∙ live_f) in
    both_ways (is_shared e.parts page) ((is.sound id e live).apart page private) (ap (λ (d : Enclave). is_shared d.parts page) one ∙ shared)

pub one_owner : (table : EnclaveTable) (page : ℕ) (a b : Owner) → IsTable table → IsOwner table page a → IsOwner table page b → a ≡ b
one_owner table page Monitor Monitor is p q = refl
one_owner table page Monitor (Private id) is p q = absurd (apart_monitor table id q.0 page is q.1 (part_private q.0 page q.2) p)
one_owner table page Monitor (Shared id) is p q = absurd (apart_monitor table id q.0 page is q.1 (part_shared q.0 page q.2) p)
one_owner table page Monitor Host is p q = absurd (both_ways (has_page table.layout.monitor page) q.0 p)
one_owner table page (Private id) Monitor is p q = absurd (apart_monitor table id p.0 page is p.1 (part_private p.0 page p.2) q)
one_owner table page (Private id) (Private other) is p q = ap Private (is.alone id other p.0 q.0 page p.1 q.1 (part_private p.0 page p.2)
    (part_private q.0 page q.2))
one_owner table page (Private id) (Shared other) is p q = absurd (apart_parts table id other p.0 q.0 page is p.1 q.1 p.2 q.2)
one_owner table page (Private id) Host is p q = absurd (both_ways (is_part p.0.parts page) (q.1 id p.0 p.1) (part_private p.0 page p.2))
one_owner table page (Shared id) Monitor is p q = absurd (apart_monitor table id p.0 page is p.1 (part_shared p.0 page p.2) q)
one_owner table page (Shared id) (Private other) is p q = absurd (apart_parts table other id q.0 p.0 page is q.1 p.1 q.2 p.2)
one_owner table page (Shared id) (Shared other) is p q = ap Shared (is.alone id other p.0 q.0 page p.1 q.1 (part_shared p.0 page p.2)
    (part_shared q.0 page q.2))
one_owner table page (Shared id) Host is p q = absurd (both_ways (is_part p.0.parts page) (q.1 id p.0 p.1) (part_shared p.0 page p.2))
one_owner table page Host Monitor is p q = absurd (both_ways (has_page table.layout.monitor page) p.0 q)
one_owner table page Host (Private id) is p q = absurd (both_ways (is_part q.0.parts page) (p.1 id q.0 q.1) (part_private q.0 page q.2))
one_owner table page Host (Shared id) is p q = absurd (both_ways (is_part q.0.parts page) (p.1 id q.0 q.1) (part_shared q.0 page q.2))
one_owner table page Host Host is p q = refl

any_some : (es : List (Option Enclave)) (place : ℕ) (e : Enclave) (page : ℕ) → get_or es place None ≡ Some e → is_private e.parts page ≡ true
    → place < length es → any_private es page ≡ true
any_some [] place e page at private inside = absurd (omega (arith, inside))
any_some (x ∷ xs) zero e page at private inside = or_left (has_private x page) (any_private xs page) (ap (λ slot. has_private slot page) at ∙ private)
any_some (x ∷ xs) (suc place) e page at private inside = or_right (has_private x page) (any_private xs page)
    (any_some xs place e page at private (omega (arith, inside)))

-- who stands at a place is live
place_live : (table : EnclaveTable) (place : ℕ) (e : Enclave) → get_or table.enclaves place None ≡ Some e → Live table (place + 1) e
place_live table place e at =
    let back : place + 1 - 1 ≡ place = omega arith in
    at_place table.enclaves (place + 1) (omega arith) ∙ ap (λ k. get_or table.enclaves k None) back ∙ at

seen : (table : EnclaveTable) (page : ℕ) → has_page table.layout.monitor page ≡ false → any_private table.enclaves page ≡ false
    → host_view table page ≡ platform_perm table.layout page
seen table page monitor none =
    ap (λ t. cond (t || any_private table.enclaves page) NoAccess (platform_perm table.layout page)) monitor
    ∙ ap (λ t. cond t NoAccess (platform_perm table.layout page)) none

hidden : (table : EnclaveTable) (page : ℕ) → (has_page table.layout.monitor page || any_private table.enclaves page) ≡ true → host_view table page ≡ NoAccess
hidden table page h = ap (λ t. cond t NoAccess (platform_perm table.layout page)) h

pub host_by_owner : (table : EnclaveTable) (page : ℕ) (owner : Owner) → IsTable table → IsOwner table page owner
    → host_view table page ≡ host_perm owner (platform_perm table.layout page)
host_by_owner table page Monitor is own = hidden table page (or_left (has_page table.layout.monitor page) (any_private table.enclaves page) own)
host_by_owner table page (Private id) is own =
    hidden table page
    (or_right (has_page table.layout.monitor page) (any_private table.enclaves page)
    (any_some table.enclaves (id - 1) own.0 page (live_place table.enclaves id own.0 own.1) own.2 (live_inside table.enclaves id own.0 own.1)))
host_by_owner table page (Shared id) is own =
    seen table page ((is.sound id own.0 own.1).not_monitor page (part_shared own.0 page own.2))
    (any_none table.enclaves page
    (λ place f at.
    false_from_ne_true (is_private f.parts page) (λ private. apart_parts table (place + 1) id f own.0 page is
    (place_live table place f at) own.1 private own.2)))
host_by_owner table page Host is own =
    seen table page own.0
    (any_none table.enclaves page
    (λ place f at. (or_parts (is_private f.parts page) (is_shared f.parts page) (own.1 (place + 1) f (place_live table place f at))).0))
