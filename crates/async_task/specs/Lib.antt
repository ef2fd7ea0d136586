pub mod HandlePaths
