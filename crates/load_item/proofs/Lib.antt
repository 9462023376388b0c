mod ReadLemmas
mod JudgedLemmas
mod HeldLemmas
mod AnswerLemmas
mod JoinLemmas
