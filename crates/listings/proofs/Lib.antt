pub mod SiteLemmas
pub mod AllowedLemmas
pub mod Examples
pub mod RegionPlans
pub mod RegionExample
pub mod SwitchPlans
