-- The energy of a run under a choice, and what overlay costs and items save with it, counted from a profile.
pub use Rattle.object_machine.specs.Machine
pub use Rattle.placement_programme.specs.Rows
pub use Rattle.profile_runner.specs.Transitions
pub use Rattle.block_splitter.specs.Forms
pub mod Energy
pub mod Scenes
pub mod Priced
pub mod Base
pub mod Copied
pub mod Stretches
pub mod Counts
pub mod Together
pub mod Overlay
pub mod OverlayCost
pub mod Entering
pub mod Gains
