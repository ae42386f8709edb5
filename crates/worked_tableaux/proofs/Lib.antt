pub mod CubeSystemLemmas
