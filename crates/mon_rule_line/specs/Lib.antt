pub mod RuleWords
pub mod TableLines
