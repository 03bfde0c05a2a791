pub mod Lines
pub mod Console
pub mod Draft
pub mod Print
