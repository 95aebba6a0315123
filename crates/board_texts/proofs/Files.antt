-- The platform that a text is, by what its reader has.
use Rattle.std.proofs.Common.{◌≡◌, ℕ, List}
use Rattle.pmp_encoding.specs.declared.perm.Perm.{Perm}
use Rattle.permission_map.specs.declared.runs.Run.{Run}
use Rattle.device_tree.specs.Meaning.{Range}
use Rattle.platforms.specs.Platform.{PlatformLayout}
use Rattle.platforms.specs.declared.platform.PlatformFault.{PlatformFault}
use Rattle.input_files.specs.Document.{Builds, IsPlatformFile}
use Rattle.board_texts.specs.Platforms.{IsRuleBroken, built, devices_of, harts_used, layout_of, ram_of}
use Rattle.board_texts.specs.ReadBack.{IsTextOf}

file_of :
    (text : List ℕ) (monitor : ℕ × ℕ) (ram : List (ℕ × ℕ)) (devices : List (ℕ × ℕ × Perm)) (harts : ℕ) (platform : PlatformLayout)
    → IsTextOf text monitor ram devices harts → Builds monitor ram devices harts 16 platform → IsPlatformFile text platform
file_of text monitor ram devices harts platform is built = record {
  text = is.utf8;
  platform_text = record {
    document = is.document;
    parsed = is.parsed;
    is_platform = record {
      monitor = monitor;
      ram = ram;
      devices = devices;
      harts = harts;
      entries = 16;
      form = is.form;
      built = built;
    };
  };
}

pub file_is :
    (text : List ℕ) (monitor : ℕ × ℕ) (ranges : List Range) (runs : List Run) (ram ram' : List (ℕ × ℕ)) (devices devices' : List (ℕ × ℕ × Perm))
    (harts harts' : ℕ) → ram ≡ ram_of runs → ram' ≡ ram_of runs → devices ≡ devices_of runs → devices' ≡ devices_of runs → harts ≡ harts_used ranges
    → harts' ≡ harts_used ranges → IsTextOf text monitor ram' devices' harts'
    → Builds monitor ram devices harts 16 (built monitor ram devices harts)
    → IsPlatformFile text (layout_of ranges runs monitor)
file_is text monitor ranges runs ram ram' devices devices' harts harts' a a' b b' c c' is built =
    let held = rw (a', b', c') at is in
    let made = rw (a, b, c) at built in
    file_of text monitor (ram_of runs) (devices_of runs) (harts_used ranges) (layout_of ranges runs monitor) held made

pub rule_is :
    (monitor : ℕ × ℕ) (ranges : List Range) (runs : List Run) (ram : List (ℕ × ℕ)) (devices : List (ℕ × ℕ × Perm)) (harts : ℕ) (fault : PlatformFault)
    → ram ≡ ram_of runs → devices ≡ devices_of runs → harts ≡ harts_used ranges → IsRuleBroken monitor ram devices harts fault
    → IsRuleBroken monitor (ram_of runs) (devices_of runs) (harts_used ranges) fault
rule_is monitor ranges runs ram devices harts fault a b c broken = rw (a, b, c) at broken
