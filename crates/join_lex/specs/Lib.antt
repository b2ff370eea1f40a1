pub mod Lexical
pub mod Spelling
pub mod Tokens
pub mod TokensCode
pub mod Versions
pub mod inside
