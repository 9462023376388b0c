pub mod CertificatePlan
pub mod PackagePlan
pub mod PlannedMessage
pub mod ReadPlans
pub mod BoardRuns
pub mod SigningRuns
