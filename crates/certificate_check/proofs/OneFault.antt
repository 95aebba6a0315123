-- At most one refusal's fault stands in the bytes, and none in a right certificate.
use Rattle.std.proofs.Common.{◌≡◌, ◌≢◌, ℕ, ◌^◌, ◌<◌, ◌≤◌, ◌↔◌, List, [], ◌++◌, length, arith, refl, sym, ap, subst, ◌∙◌, Result, Ok, Err}
use Rattle.std.proofs.lemmas.List.{append-nil}
use Rattle.std.specs.Result.{IfOk, IfErr}
use Rattle.pmp_encoding.specs.declared.perm.Perm.TheVariants.{NoAccess}
use Rattle.pmp_encoding.specs.declared.region.Entry.{Entry}
use Rattle.pmp_match.specs.Meaning.{View, Means}
use Rattle.pmp_match.specs.Bounds.{BoundTree, bound_of}
use Rattle.certificate_format.specs.declared.fault.ReadFault.{ReadFault}
use Rattle.certificate_format.specs.declared.header.Header.{Header}
use Rattle.certificate_format.specs.Faults.{HeaderFault}
use Rattle.certificate_format.specs.Spelling.{header_bytes, node_bytes}
use Rattle.certificate_format.proofs.Headers.{header_once, header_stands, same_header}
use Rattle.certificate_check.specs.declared.refusal.CheckRefusal.{CheckRefusal}
use Rattle.certificate_check.specs.declared.refusal.CheckRefusal.TheVariants.{EntriesTooMany, WrongMeaning, Trailing}
use Rattle.certificate_check.specs.Refusals.{refusal_of}
use Rattle.certificate_check.specs.Listed.{IsListed, ListFault}
use Rattle.certificate_check.specs.Nodes.{IsRightNode, NodeFault}
use Rattle.certificate_check.specs.Certificates.{IsRight, IsReadWhole, RefusalStands, in_header, in_entries, in_root, too_many, another_meaning, trailing}
use Rattle.certificate_check.proofs.Judged.{AreParts, parts_of}
use Rattle.certificate_check.proofs.OneList.{same_list, list_once, list_stands}
use Rattle.certificate_check.proofs.OneNode.{same_node, node_once, node_stands}

-- ---- a fault in its part

-- after the root
data LastFault (view : View) (entries : List Entry) (tree : BoundTree) (rest : List ℕ) (refusal : CheckRefusal) : Type 0 where
  many : bound_of tree NoAccess < length entries → refusal ≡ EntriesTooMany → LastFault view entries tree rest refusal
  meaning : length entries ≤ bound_of tree NoAccess → ¬ Means entries view → refusal ≡ WrongMeaning → LastFault view entries tree rest refusal
  more : length entries ≤ bound_of tree NoAccess → Means entries view → rest ≢ [] → refusal ≡ Trailing → LastFault view entries tree rest refusal

-- after the entries
data RootFault (view : View) (bytes : List ℕ) (entries : List Entry) (refusal : CheckRefusal) : Type 0 where
  at_root : NodeFault view 44 0 bytes refusal → RootFault view bytes entries refusal
  past_root :
      (tree : BoundTree) (rest : List ℕ) → bytes ≡ node_bytes tree ++ rest → IsRightNode view 44 0 tree → LastFault view entries tree rest refusal
      → RootFault view bytes entries refusal

-- after the header
data EntriesFault (view : View) (bytes : List ℕ) (count : ℕ) (refusal : CheckRefusal) : Type 0 where
  at_entries : ListFault bytes count refusal → EntriesFault view bytes count refusal
  past_entries :
      (entries : List Entry) (rest : List ℕ) → IsListed bytes rest entries → length entries ≡ count → RootFault view rest entries refusal
      → EntriesFault view bytes count refusal

-- in the header, or after it
data PartFault (view : View) (bytes : List ℕ) (refusal : CheckRefusal) : Type 0 where
  at_header : (fault : ReadFault) → HeaderFault bytes fault → refusal ≡ refusal_of fault → PartFault view bytes refusal
  past_header :
      (header : Header) (rest : List ℕ) → bytes ≡ header_bytes header ++ rest → header.count < 2 ^ 32 → EntriesFault view rest header.count refusal
      → PartFault view bytes refusal

last_part : (view : View) (bytes rest : List ℕ) (entries : List Entry) (tree : BoundTree) (refusal : CheckRefusal) → IsReadWhole view bytes rest entries tree
    → LastFault view entries tree rest refusal → PartFault view bytes refusal
last_part view bytes rest entries tree refusal whole fault =
    past_header whole.header whole.behind whole.headed whole.small
    (past_entries entries (node_bytes tree ++ rest) whole.listed (sym whole.counted) (past_root tree rest refl whole.right fault))

part_of : (view : View) (bytes : List ℕ) (refusal : CheckRefusal) → RefusalStands view bytes refusal → PartFault view bytes refusal
part_of view bytes _ (in_header fault h) = at_header fault h refl
part_of view bytes _ (in_entries header rest refusal headed small h) = past_header header rest headed small (at_entries h)
part_of view bytes _ (in_root header entries behind rest refusal headed small listed counted h) =
    past_header header behind headed small (past_entries entries rest listed counted (at_root h))
part_of view bytes _ (too_many entries tree rest whole over) = last_part view bytes rest entries tree EntriesTooMany whole (many over refl)
part_of view bytes _ (another_meaning entries tree rest whole few not) = last_part view bytes rest entries tree WrongMeaning whole (meaning few not refl)
part_of view bytes _ (trailing entries tree rest whole few means some) = last_part view bytes rest entries tree Trailing whole (more few means some refl)

-- ---- at most one

few_or_many : (m n : ℕ) → m < n → n ≤ m → ⊥
few_or_many m n h w = omega (arith, h, w)

last_once :
    (view : View) (entries : List Entry) (tree : BoundTree) (rest : List ℕ) (a b : CheckRefusal) → LastFault view entries tree rest a
    → LastFault view entries tree rest b → a ≡ b
last_once view entries tree rest a b (many over x) (many over' y) = x ∙ sym y
last_once view entries tree rest a b (many over x) (meaning few not y) = absurd (few_or_many _ _ over few)
last_once view entries tree rest a b (many over x) (more few means some y) = absurd (few_or_many _ _ over few)
last_once view entries tree rest a b (meaning few not x) (many over y) = absurd (few_or_many _ _ over few)
last_once view entries tree rest a b (meaning few not x) (meaning few' not' y) = x ∙ sym y
last_once view entries tree rest a b (meaning few not x) (more few' means some y) = absurd (not means)
last_once view entries tree rest a b (more few means some x) (many over y) = absurd (few_or_many _ _ over few)
last_once view entries tree rest a b (more few means some x) (meaning few' not y) = absurd (not means)
last_once view entries tree rest a b (more few means some x) (more few' means' some' y) = x ∙ sym y

root_once : (view : View) (bytes : List ℕ) (entries : List Entry) (a b : CheckRefusal) → RootFault view bytes entries a → RootFault view bytes entries b → a ≡ b
root_once view bytes entries a b (at_root h) (at_root w) = node_once view 44 0 bytes a b h w
root_once view bytes entries a b (at_root h) (past_root tree rest e right w) = absurd (node_stands view 44 0 bytes rest tree a h right e)
root_once view bytes entries a b (past_root tree rest e right h) (at_root w) = absurd (node_stands view 44 0 bytes rest tree b w right e)
root_once view bytes entries a b (past_root tree rest e right h) (past_root tree' rest' e' right' w) =
    let same = same_node view 44 0 tree' tree rest' rest right' right (sym e' ∙ e) in
    let here : LastFault view entries tree rest b =
    subst (λ (xs : List ℕ). LastFault view entries tree xs b) same.1 (subst (λ (x : BoundTree). LastFault view entries x rest' b) same.0 w)
    in
    last_once view entries tree rest a b h here

entries_once : (view : View) (bytes : List ℕ) (count : ℕ) (a b : CheckRefusal) → EntriesFault view bytes count a → EntriesFault view bytes count b → a ≡ b
entries_once view bytes count a b (at_entries h) (at_entries w) = list_once bytes count a b h w
entries_once view bytes count a b (at_entries h) (past_entries entries rest listed all w) = absurd (list_stands bytes rest entries count a listed all h)
entries_once view bytes count a b (past_entries entries rest listed all h) (at_entries w) = absurd (list_stands bytes rest entries count b listed all w)
entries_once view bytes count a b (past_entries entries rest listed all h) (past_entries entries' rest' listed' all' w) =
    let same = same_list bytes rest' rest entries' entries listed' listed (all' ∙ sym all) in
    let here : RootFault view rest entries b =
    subst (λ (xs : List ℕ). RootFault view xs entries b) same.1 (subst (λ (es : List Entry). RootFault view rest' es b) same.0 w)
    in
    root_once view rest entries a b h here

part_once : (view : View) (bytes : List ℕ) (a b : CheckRefusal) → PartFault view bytes a → PartFault view bytes b → a ≡ b
part_once view bytes a b (at_header f h x) (at_header g w y) = x ∙ ap refusal_of (header_once bytes f g h w) ∙ sym y
part_once view bytes a b (at_header f h x) (past_header header rest e small w) = absurd (header_stands bytes header rest f e h)
part_once view bytes a b (past_header header rest e small h) (at_header g w y) = absurd (header_stands bytes header rest g e w)
part_once view bytes a b (past_header header rest e small h) (past_header header' rest' e' small' w) =
    let same = same_header header' header rest' rest small' small (sym e' ∙ e) in
    let here : EntriesFault view rest header.count b =
    subst (λ (xs : List ℕ). EntriesFault view xs header.count b) same.1 (subst (λ (x : Header). EntriesFault view rest' x.count b) same.0 w)
    in
    entries_once view rest header.count a b h here

-- two refusals whose faults stand in the same bytes are one
pub refusal_once : (view : View) (bytes : List ℕ) (a b : CheckRefusal) → RefusalStands view bytes a → RefusalStands view bytes b → a ≡ b
refusal_once view bytes a b h w = part_once view bytes a b (part_of view bytes a h) (part_of view bytes b w)

-- ---- none in a right certificate

last_stands : (view : View) (bytes : List ℕ) (n : ℕ) (refusal : CheckRefusal) (p : AreParts view bytes n) → LastFault view p.entries p.tree [] refusal → ⊥
last_stands view bytes n refusal p (many over x) = few_or_many _ _ over p.few
last_stands view bytes n refusal p (meaning few not x) = not p.means
last_stands view bytes n refusal p (more few means some x) = some refl

root_stands : (view : View) (bytes : List ℕ) (n : ℕ) (refusal : CheckRefusal) (p : AreParts view bytes n) → RootFault view (node_bytes p.tree) p.entries refusal
    → ⊥
root_stands view bytes n refusal p (at_root h) = node_stands view 44 0 (node_bytes p.tree) [] p.tree refusal h p.right (sym (append-nil (node_bytes p.tree)))
root_stands view bytes n refusal p (past_root tree rest e right h) =
    let same = same_node view 44 0 tree p.tree rest [] right p.right (sym e ∙ sym (append-nil (node_bytes p.tree))) in
    let here : LastFault view p.entries p.tree [] refusal =
    subst (λ (xs : List ℕ). LastFault view p.entries p.tree xs refusal) same.1 (subst (λ (x : BoundTree). LastFault view p.entries x rest refusal) same.0 h)
    in
    last_stands view bytes n refusal p here

entries_stand : (view : View) (bytes : List ℕ) (n : ℕ) (refusal : CheckRefusal) (p : AreParts view bytes n) → EntriesFault view p.behind p.header.count refusal
    → ⊥
entries_stand view bytes n refusal p (at_entries h) = list_stands p.behind (node_bytes p.tree) p.entries p.header.count refusal p.listed p.counted h
entries_stand view bytes n refusal p (past_entries entries rest listed all h) =
    let same = same_list p.behind rest (node_bytes p.tree) entries p.entries listed p.listed (all ∙ sym p.counted) in
    let here : RootFault view (node_bytes p.tree) p.entries refusal =
    subst (λ (xs : List ℕ). RootFault view xs p.entries refusal) same.1 (subst (λ (es : List Entry). RootFault view rest es refusal) same.0 h)
    in
    root_stands view bytes n refusal p here

parts_stand : (view : View) (bytes : List ℕ) (n : ℕ) (refusal : CheckRefusal) (p : AreParts view bytes n) → PartFault view bytes refusal → ⊥
parts_stand view bytes n refusal p (at_header f h x) = header_stands bytes p.header p.behind f p.headed h
parts_stand view bytes n refusal p (past_header header rest e small h) =
    let same = same_header header p.header rest p.behind small p.small (sym e ∙ p.headed) in
    let here : EntriesFault view p.behind p.header.count refusal =
    subst (λ (xs : List ℕ). EntriesFault view xs p.header.count refusal) same.1 (subst (λ (x : Header). EntriesFault view rest x.count refusal) same.0 h)
    in
    entries_stand view bytes n refusal p here

-- a right certificate has no refusal's fault
pub right_stands : (view : View) (bytes : List ℕ) (n : ℕ) (refusal : CheckRefusal) → IsRight view bytes n → RefusalStands view bytes refusal → ⊥
right_stands view bytes n refusal right stands = parts_stand view bytes n refusal (parts_of view bytes n right) (part_of view bytes refusal stands)

-- an answer that is right where it is a yes, and whose fault stands where it is a no, is the only one
pub refused_exactly :
    (view : View) (bytes : List ℕ) (result : Result ℕ CheckRefusal) → IfOk result (IsRight view bytes) → IfErr result (RefusalStands view bytes)
    → (refusal : CheckRefusal)
    → (result ≡ Err refusal) ↔ RefusalStands view bytes refusal
refused_exactly view bytes (Ok n) right fault = λ refusal. ((λ e. absurd (cc)), λ stands. absurd (right_stands view bytes n refusal right stands))
refused_exactly view bytes (Err r) right fault =
    λ refusal. (
      (λ e. let same : r ≡ refusal = cc in subst (λ (x : CheckRefusal). RefusalStands view bytes x) same fault),
      λ stands. ap (λ x. Err x)
          (refusal_once view bytes r refusal fault stands),
    )

-- right certificates of the same bytes have one number of entries
one_number : (view : View) (bytes : List ℕ) (m n : ℕ) → IsRight view bytes m → IsRight view bytes n → m ≡ n
one_number view bytes m n p q =
    let a = parts_of view bytes m p in
    let b = parts_of view bytes n q in
    let same = same_header a.header b.header a.behind b.behind a.small b.small (sym a.headed ∙ b.headed) in
    sym a.number ∙ ap (λ (x : Header). x.count) same.0 ∙ b.number

-- such an answer is a yes for right bytes
pub accepted_exactly :
    (view : View) (bytes : List ℕ) (result : Result ℕ CheckRefusal) (n : ℕ) → IfOk result (IsRight view bytes) → IfErr result (RefusalStands view bytes)
    → IsRight view bytes n
    → result ≡ Ok n
accepted_exactly view bytes (Ok m) n right fault is = ap (λ k. Ok k) (one_number view bytes m n right is)
accepted_exactly view bytes (Err r) n right fault is = absurd (right_stands view bytes n r is fault)
