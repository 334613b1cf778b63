pub mod SizeLaws
pub mod SliceLaws
pub mod SpellLaws
pub mod StandLaws
