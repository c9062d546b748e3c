-- Endings: the words that tell how a run ended
-- ProfileLines: the lines of a profile; addresses, and lines that end in a name
-- ShowLines: the lines of what may move, and of functions with their regions
-- TakenLines: the lines of what has moved, and where it stands
-- ReportText: the lines that tell how a choice was found, and what the run costs
-- Texts: the bytes of a text, of which long names stay where they are
pub mod Endings
pub mod ProfileLines
pub mod ShowLines
pub mod TakenLines
pub mod ReportText
pub mod Texts
