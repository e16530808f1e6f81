pub mod BookWords
