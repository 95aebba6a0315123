-- DMA-capable devices of boards. No PMP entry of a hart restricts them, so whoever may write their
-- registers can read and write any memory.
use Rattle.std.specs.Prelude.{ℕ, ◌+◌, ◌&&◌, nat_le, nat_lt, if◌then◌else◌, Bool, true, false}
use Rattle.std.specs.Prelude.{List, [], ◌∷◌, ◌++◌}
use Rattle.pmp_encoding.specs.declared.perm.Perm.{Perm}
use Rattle.pmp_encoding.specs.declared.perm.Perm.TheVariants.{NoAccess}
use Rattle.input_files.specs.declared.masters.KnownBoard.{KnownBoard}
use Rattle.input_files.specs.declared.masters.KnownBoard.TheVariants.{Virt, Sifive, Fu740}
use Rattle.input_files.specs.declared.masters.MasterKind.{MasterKind}
use Rattle.input_files.specs.declared.masters.MasterKind.TheVariants.{Virtio, FwCfg, Pcie, Dma}
use Rattle.input_files.specs.declared.masters.MasterKind.TheVariants.{Ethernet}
use Rattle.input_files.specs.declared.masters.Master.{Master}
use Rattle.input_files.specs.declared.held_masters.HeldMaster.{HeldMaster}

-- the pages of a DMA-capable device on a board, by their first and their last byte
abbrev pub at : KnownBoard → MasterKind → ℕ → ℕ → Master
at board kind first last = record { board = board; kind = kind; first = first; last = last }

-- the devices of QEMU's virt board (its source `hw/riscv/virt.c`; its device tree agrees): fw_cfg,
-- eight virtio slots, and of PCIe the ports, the configuration and two windows of memory. The upper
-- one is at this address if RAM ends below it
abbrev pub virt_masters : List Master
virt_masters = at Virt Pcie 0x3000000 0x300ffff
    ∷ at Virt Virtio 0x10001000 0x10008fff
    ∷ at Virt FwCfg 0x10100000 0x10100fff
    ∷ at Virt Pcie 0x30000000 0x3fffffff
    ∷ at Virt Pcie 0x40000000 0x7fffffff
    ∷ at Virt Pcie 0x400000000 0x7ffffffff
    ∷ []

-- the devices of SiFive's FU540 and FU740 (their manuals; Linux's device trees `fu540-c000.dtsi`
-- and `fu740-c000.dtsi`): the DMA controller and Ethernet; and on the FU740 the windows of memory,
-- the configuration and the registers of PCIe
abbrev pub sifive_masters : List Master
sifive_masters = at Sifive Dma 0x3000000 0x30fffff
    ∷ at Sifive Ethernet 0x10090000 0x10091fff
    ∷ at Fu740 Pcie 0x60080000 0x70ffffff
    ∷ at Fu740 Pcie 0xdf0000000 0xdffffffff
    ∷ at Fu740 Pcie 0xe00000000 0xe7fffffff
    ∷ at Fu740 Pcie 0x2000000000 0x3fffffffff
    ∷ []

-- all known DMA-capable devices
abbrev pub masters : List Master
masters = virt_masters ++ sifive_masters

-- a permission allows anything
abbrev pub is_open : Perm → Bool
is_open NoAccess = false
is_open _ = true

-- a platform's device, with its base, size and permission, makes a byte of a DMA-capable device
-- accessible
abbrev pub holds : (ℕ × ℕ × Perm) → Master → Bool
holds device master = is_open device.2
    && (nat_le device.0 master.last && nat_lt master.first (device.0 + device.1))

-- the DMA-capable devices in a list that the platform's device with this number contains, in their
-- order
abbrev pub held_by : ℕ → (ℕ × ℕ × Perm) → List Master → List HeldMaster
held_by n device [] = []
held_by n device (master ∷ rest) =
    if holds device master then record { device = n; master = master } ∷ held_by n device rest
    else held_by n device rest

-- the DMA-capable devices that platform's devices contain, device by device, if the first has
-- number n
abbrev pub held_from : ℕ → List (ℕ × ℕ × Perm) → List HeldMaster
held_from n [] = []
held_from n (device ∷ devices) = held_by n device masters ++ held_from (n + 1) devices

-- the DMA-capable devices that the devices of a platform, counted from 1, contain
abbrev pub held_masters : List (ℕ × ℕ × Perm) → List HeldMaster
held_masters devices = held_from 1 devices
