pub mod AfterLaws
pub mod StepLaws
pub mod PhaseLaws
pub mod SoundLaws
pub mod PieceLaws
pub mod ListenLaws
