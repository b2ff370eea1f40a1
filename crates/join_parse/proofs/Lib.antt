pub mod Accepted
pub mod Completions
pub mod Steps
pub mod Rises
pub mod Firsts
pub mod Unique
pub mod Laws
pub mod Moves
pub mod Expansions
pub mod Lists
pub mod Whole
pub mod Prints
pub mod Digits
pub mod Again
use Rattle.join_parse.specs.Faults.{HasOneOutcome}
use Rattle.join_parse.proofs.Expansions.{sites-end}
use Rattle.join_parse.proofs.Lists.{definitions-all}
use Rattle.join_parse.proofs.Whole.{tree-kept}
use Rattle.join_parse.proofs.Prints.{text-printed}
use Rattle.join_parse.proofs.Again.{reads-again}
pub mod Listed
pub mod LeftToPrint
pub mod Placed
