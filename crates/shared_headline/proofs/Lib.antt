pub mod Lives
