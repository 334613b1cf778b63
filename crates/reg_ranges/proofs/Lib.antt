pub mod CellLaws
pub mod EntryLaws
pub mod TranslationLaws
