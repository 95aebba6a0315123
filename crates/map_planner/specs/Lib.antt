pub mod PrintedPlan
