-- The table at boot.
use Rattle.std.proofs.Common.{ℕ, zero, suc, ◌≡◌, ◌∙◌, ◌-◌, ⊎_elim, sym, ap, refl, Bool, true, false, ◌||◌, cond, List, length, get_or, replicate, Option, None}
use Rattle.std.proofs.Common.{Some, arith}
use Rattle.std.proofs.lemmas.Bool.{cases_lt}
use Rattle.std.proofs.lemmas.List.{get_or-replicate, length-replicate, get_or_past}
use Rattle.pmp_encoding.specs.declared.perm.Perm.TheVariants.{NoAccess}
use Rattle.pmp_encoding.specs.declared.region.Entry.{Entry}
use Rattle.pmp_match.specs.Meaning.{View}
use Rattle.permission_map.specs.Views.{SameView}
use Rattle.platforms.specs.Platform.{PlatformLayout, IsLayout, platform_perm}
use Rattle.enclave_table.specs.Enclaves.{enclave_at}
use Rattle.enclave_table.specs.Views.{host_view}
use Rattle.enclave_table.proofs.ShortNames.{any_private}
use Rattle.enclave_table.specs.Fewest.{IsListOf}
use Rattle.enclave_table.specs.Tables.{IsKept}
use Rattle.enclave_table.specs.Boot.{opening_table}
use Rattle.enclave_table.specs.declared.enclave.Enclave.{Enclave}
use Rattle.enclave_table.proofs.Places.{live_place}
use Rattle.platforms.specs.Ranges.{has_page}

abbrev absent : Option Enclave
absent = None

none_private : (n page : ℕ) → any_private (replicate n None) page ≡ false
none_private zero page = refl
none_private (suc n) page = none_private n page

none_at : (n i : ℕ) → get_or (replicate n absent) i absent ≡ absent
none_at n i =
    ⊎_elim (λ low. get_or-replicate n i absent absent low)
    (λ high. get_or_past (replicate n absent) i absent (omega (arith, high, length-replicate n absent))) (cases_lt i n)

absurd_at : (slot : Option Enclave) (e : Enclave) → slot ≡ Some e → slot ≡ None → ⊥
absurd_at slot e some none = cc

none_live : (n id : ℕ) (e : Enclave) → enclave_at (replicate n absent) id ≡ Some e → ⊥
none_live n id e live = absurd_at (get_or (replicate n absent) (id - 1) absent) e (live_place (replicate n absent) id e live) (none_at n (id - 1))

or_none : (b : Bool) → (b || false) ≡ b
or_none true = refl
or_none false = refl

pub opening_view : (layout : PlatformLayout) (view : View) → SameView view (λ page. cond (has_page layout.monitor page) NoAccess (platform_perm layout page))
    → SameView view (host_view (opening_table layout))
opening_view layout view same page small =
    let hidden : (has_page layout.monitor page || any_private (replicate 64 None) page) ≡ has_page layout.monitor page =
    ap (λ t. has_page layout.monitor page || t) (none_private 64 page) ∙ or_none (has_page layout.monitor page) in
    same page small ∙ sym (ap (λ t. cond t NoAccess (platform_perm layout page)) hidden)

pub opening_kept :
    (layout : PlatformLayout) (list : List Entry) (lists : List (List Entry)) → IsLayout layout → IsListOf layout.limit (host_view (opening_table layout)) list
    → length lists ≡ 64
    → IsKept (record { table = opening_table layout; host_list = list; lists = lists })
opening_kept layout list lists is host places =
    record {
      table =
          record {
            layout = is;
            places = length-replicate 64 absent;
            sound = λ id e live. absurd (none_live 64 id e live);
            alone = λ id other e f page live live_f part part_f. absurd (none_live 64 id e live);
          };
      host = host;
      places = places;
      each = λ id e live. absurd (none_live 64 id e live);
    }
