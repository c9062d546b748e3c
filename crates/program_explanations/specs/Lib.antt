pub use Rattle.relink_core.specs.Choices
