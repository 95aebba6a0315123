-- Re-exports the byte format of certificates.
pub use Rattle.certificate_format.specs.Spelling.{u32_bytes, u64_bytes, header_bytes, pair_bytes}
pub use Rattle.certificate_format.specs.Spelling.{costs_bytes, node_bytes, SpellsEntry}
pub use Rattle.certificate_format.specs.Spelling.{SpellsEntries, FitsNode, Spells, AreNoSubPages}
pub use Rattle.certificate_format.specs.Spelling.{HasNoOverflow, IsCertificate}
