-- Values of `--monitor` that are no whole pages.
use Rattle.std.proofs.Common.{◌≡◌, ℕ, Option, Some, None, inl, inr, refl, subst, sym}
use Rattle.text_lines.specs.Numbers.{number_of}
use Rattle.command_line.specs.declared.fault.Fault.TheVariants.{MonitorPages}
use Rattle.command_line.specs.Faults.{IsFirst, of_monitor}
use Rattle.command_line.specs.Layouts.{IsNumber}
use Rattle.command_line.specs.Monitors.{AreWholePages, base_name, size_name}
use Rattle.command_line.specs.Subcommands.{Text}

-- a word that spells a number is not without one
spelled : (value : Option Text) (word other : Text) (n : ℕ) → value ≡ Some word → number_of word ≡ Some n → value ≡ Some other → number_of other ≡ None → ⊥
spelled value word other n is spells same none = cc

pub not_pages :
    (value flag : Text → Option Text) (base_word size_word : Text) (base size : ℕ) → value base_name ≡ Some base_word → value size_name ≡ Some size_word
    → number_of base_word ≡ Some base → number_of size_word ≡ Some size → (AreWholePages base size → ⊥)
    → IsFirst value flag of_monitor MonitorPages
not_pages value flag base_word size_word base size is_base is_size of_base of_size none =
    inr (
      λ lacks. spelled (value base_name) base_word lacks.2 base is_base of_base lacks.5 lacks.6,
      inr (
        λ lacks. spelled (value size_name) size_word lacks.2 size is_size of_size lacks.5 lacks.6,
        inl (
          (
            base,
            size,
            subst (λ (v : Option Text). IsNumber v base) (sym is_base) of_base,
            subst (λ (v : Option Text). IsNumber v size) (sym is_size) of_size,
            none,
          ),
          refl,
        ),
      ),
    )
