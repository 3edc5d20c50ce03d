pub mod FunctionsForC
