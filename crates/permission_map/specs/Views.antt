-- Re-exports views, overwritten views and equality of views.
pub use Rattle.pmp_encoding.specs.Views.{overwritten, SameView}
