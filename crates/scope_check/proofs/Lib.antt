pub mod Filled
pub mod Room
pub mod Lists
pub mod Folds
pub mod Declares
pub mod Counting
pub mod Tables
pub mod Steps
pub mod Outside
pub mod Own
pub mod Walks
pub mod Counted
pub mod Uses
pub mod Firsts
pub mod Same
pub mod Outermost
pub mod Sites
pub mod Size
pub mod Sorts
pub mod TermBlock
pub mod Among
pub mod BlockFacts
pub mod Good
pub mod Bound
pub mod Program
pub mod Answer
use Rattle.scope_check.proofs.Declares.{join-is}
use Rattle.scope_check.proofs.Filled.{def-tables}
use Rattle.scope_check.proofs.Room.{room-site}
use Rattle.scope_check.proofs.Tables.{process-is}
use Rattle.scope_check.proofs.Walks.{level-so}
use Rattle.scope_check.proofs.Counted.{counted}
use Rattle.scope_check.proofs.Uses.{level-uses-are}
use Rattle.scope_check.proofs.Same.{first-fault}
use Rattle.scope_check.proofs.Outermost.{passes-so}
use Rattle.scope_check.proofs.Size.{sentence-long}
use Rattle.scope_check.proofs.Sorts.{once-each}
use Rattle.scope_check.proofs.TermBlock.{all-described}
use Rattle.scope_check.proofs.Sites.{par-is}
use Rattle.scope_check.proofs.BlockFacts.{block-fine}
use Rattle.scope_check.proofs.Good.{level-term}
use Rattle.scope_check.proofs.Bound.{level-within}
use Rattle.scope_check.proofs.Program.{program-kept}
use Rattle.scope_check.proofs.Answer.{answers}
pub mod FaultList
