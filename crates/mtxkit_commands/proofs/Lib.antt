mod OrderRefusals
mod Reports
mod Evaluating
mod FoundScales
