-- At most one fault stands in a node's tag, its permission or its costs, and none where they are spelled.
use Rattle.std.proofs.Common.{◌≡◌, ℕ, List, ◌∷◌, ◌++◌, refl}
use Rattle.pmp_encoding.specs.declared.perm.Perm.{Perm}
use Rattle.pmp_encoding.specs.Perms.{bits_of}
use Rattle.certificate_format.specs.declared.fault.ReadFault.{ReadFault}
use Rattle.certificate_format.specs.declared.fault.ReadFault.TheVariants.{BadMagic, BadVersion, Truncated, BadTag, BadPerm, BadLimit}
use Rattle.certificate_format.specs.declared.reader.Tag.{Tag}
use Rattle.certificate_format.specs.declared.reader.Tag.TheVariants.{Leaf, Branch}
use Rattle.certificate_format.specs.Tags.{tag_byte}
use Rattle.certificate_format.specs.Spelling.{costs_bytes}
use Rattle.certificate_format.specs.Faults.{ShortFault, TagFault, PermFault}
use Rattle.certificate_format.proofs.CostBytes.{short_costs}

pub tag_once : (bytes : List ℕ) (f g : ReadFault) → TagFault bytes f → TagFault bytes g → f ≡ g
tag_once bytes Truncated Truncated h w = refl
tag_once bytes BadTag BadTag h w = refl
tag_once bytes Truncated BadTag h (b, rest, same, no_leaf, no_branch) = cc
tag_once bytes BadTag Truncated (b, rest, same, no_leaf, no_branch) w = cc
tag_once bytes BadMagic _ h w = absurd h
tag_once bytes BadVersion _ h w = absurd h
tag_once bytes BadPerm _ h w = absurd h
tag_once bytes BadLimit _ h w = absurd h
tag_once bytes _ BadMagic h w = absurd w
tag_once bytes _ BadVersion h w = absurd w
tag_once bytes _ BadPerm h w = absurd w
tag_once bytes _ BadLimit h w = absurd w

pub tag_stands : (bytes rest : List ℕ) (tag : Tag) (f : ReadFault) → bytes ≡ tag_byte tag ∷ rest → TagFault bytes f → ⊥
tag_stands bytes rest Leaf Truncated e h = cc
tag_stands bytes rest Branch Truncated e h = cc
tag_stands bytes rest Leaf BadTag e (b, rest', same, no_leaf, no_branch) = no_leaf (cc)
tag_stands bytes rest Branch BadTag e (b, rest', same, no_leaf, no_branch) = no_branch (cc)
tag_stands bytes rest tag BadMagic e h = h
tag_stands bytes rest tag BadVersion e h = h
tag_stands bytes rest tag BadPerm e h = h
tag_stands bytes rest tag BadLimit e h = h

pub perm_once : (bytes : List ℕ) (f g : ReadFault) → PermFault bytes f → PermFault bytes g → f ≡ g
perm_once bytes Truncated Truncated h w = refl
perm_once bytes BadPerm BadPerm h w = refl
perm_once bytes Truncated BadPerm h (b, rest, same, none) = cc
perm_once bytes BadPerm Truncated (b, rest, same, none) w = cc
perm_once bytes BadMagic _ h w = absurd h
perm_once bytes BadVersion _ h w = absurd h
perm_once bytes BadTag _ h w = absurd h
perm_once bytes BadLimit _ h w = absurd h
perm_once bytes _ BadMagic h w = absurd w
perm_once bytes _ BadVersion h w = absurd w
perm_once bytes _ BadTag h w = absurd w
perm_once bytes _ BadLimit h w = absurd w

pub perm_stands : (bytes rest : List ℕ) (perm : Perm) (f : ReadFault) → bytes ≡ bits_of perm ∷ rest → PermFault bytes f → ⊥
perm_stands bytes rest perm Truncated e h = cc
perm_stands bytes rest perm BadPerm e (b, rest', same, none) = none perm (cc)
perm_stands bytes rest perm BadMagic e h = h
perm_stands bytes rest perm BadVersion e h = h
perm_stands bytes rest perm BadTag e h = h
perm_stands bytes rest perm BadLimit e h = h

pub costs_stand : (bytes rest : List ℕ) (costs : Perm → ℕ) (f : ReadFault) → bytes ≡ costs_bytes costs ++ rest → ShortFault 24 bytes f → ⊥
costs_stand bytes rest costs Truncated e h = short_costs bytes bytes rest costs refl h e
costs_stand bytes rest costs BadMagic e h = h
costs_stand bytes rest costs BadVersion e h = h
costs_stand bytes rest costs BadTag e h = h
costs_stand bytes rest costs BadPerm e h = h
costs_stand bytes rest costs BadLimit e h = h
