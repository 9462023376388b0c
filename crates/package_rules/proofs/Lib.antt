pub mod RoomLemmas
pub mod AnswerLemmas
pub mod AlikeLemmas
pub mod BlockLemmas
