-- A tree written as a list of numbers, and read back.
use Rattle.std.specs.Prelude.{◌≡◌, ℕ, zero, suc, List, [], ◌∷◌, refl}
use Rattle.std.proofs.Common.{◌∙◌, ap}
use Rattle.std.specs.Coded.{Coded, code_by, coded_list, coded_ℕ}
use Rattle.pmp_encoding.specs.declared.perm.Perm.{Perm}
use Rattle.pmp_encoding.specs.declared.perm.Perm.TheVariants.{NoAccess, Read, ReadWrite, Execute}
use Rattle.pmp_encoding.specs.declared.perm.Perm.TheVariants.{ReadExecute, ReadWriteExecute}
use Rattle.pmp_encoding.specs.Perms.{index_of}
use Rattle.prefix_tree.specs.Trees.{PermTree, Uniform, Split}

abbrev pub perm_of : ℕ → Perm
perm_of zero = NoAccess
perm_of (suc zero) = Read
perm_of (suc (suc zero)) = ReadWrite
perm_of (suc (suc (suc zero))) = Execute
perm_of (suc (suc (suc (suc zero)))) = ReadExecute
perm_of (suc (suc (suc (suc (suc n))))) = ReadWriteExecute

-- the lower half, the upper half, and 0 for the split itself
abbrev pub written : PermTree → List ℕ → List ℕ
written (Uniform q) rest = suc (index_of q) ∷ rest
written (Split lower upper) rest = written lower (written upper (0 ∷ rest))

-- the two trees that were read last become the halves of one
abbrev pub joined : List PermTree → List PermTree
joined [] = []
joined (upper ∷ []) = []
joined (upper ∷ (lower ∷ before)) = Split lower upper ∷ before

abbrev pub read : List ℕ → List PermTree → List PermTree
read [] before = before
read (zero ∷ rest) before = read rest (joined before)
read (suc n ∷ rest) before = read rest (Uniform (perm_of n) ∷ before)

abbrev pub top_of : List PermTree → PermTree
top_of [] = Uniform NoAccess
top_of (tree ∷ before) = tree

pub read-written : (tree : PermTree) (rest : List ℕ) (before : List PermTree)
    → read (written tree rest) before ≡ read rest (tree ∷ before)
read-written (Uniform NoAccess) rest before = refl
read-written (Uniform Read) rest before = refl
read-written (Uniform ReadWrite) rest before = refl
read-written (Uniform Execute) rest before = refl
read-written (Uniform ReadExecute) rest before = refl
read-written (Uniform ReadWriteExecute) rest before = refl
read-written (Split lower upper) rest before =
    read-written lower (written upper (0 ∷ rest)) before
    ∙ read-written upper (0 ∷ rest) (lower ∷ before)

pub top-read : (tree : PermTree) → top_of (read (written tree []) []) ≡ tree
top-read tree = ap top_of (read-written tree [] [])

abbrev pub tree_code : Coded PermTree
tree_code = code_by (List ℕ) (coded_list coded_ℕ) (λ tree. written tree [])
    (λ numbers. top_of (read numbers [])) top-read
