-- Once the borrow of all passes ends, they are those that it shows last.
use Rattle.std.specs.Prelude.{List, ◌++◌, take, drop, length}
use Rattle.std.specs.Borrow.{Lends, MutBor, Fml, Array, RattleType}
use Rattle.std.specs.declared.sync.ledger.Ledger as Ledger
use Rattle.shared_net.specs.Passes.{PassKept}
use Rattle.shared_net.specs.contracts.pass.Passes.{the_row}
use Rattle.shared_net.specs.contracts.pass.Pass as pass
use Rattle.shared_net.specs.declared.run.Run as Run

module _ (L : RattleType) (run : Run.Ghosts L.Denot) (ledger : Ledger.Ghosts L.Denot) where
  abbrev pub LendsPasses : MutBor (List PassKept) → MutBor (List PassKept) → Fml
  LendsPasses s r =
      Lends (the_row L run ledger) (Array (pass.the_row L run ledger) 0) s r
      (λ w. take (length s.now) (w ++ drop (length w) s.now))
