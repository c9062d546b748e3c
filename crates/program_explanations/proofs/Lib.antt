pub mod OneProof
pub mod Analysed
