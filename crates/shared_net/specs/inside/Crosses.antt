-- What of a network may go to another thread, and what threads may share.
use Rattle.std.specs.Borrow.{RattleType}
use Rattle.std.specs.declared.sync.ledger.Ledger as Ledger
use denote.Param.Send.{IsSend, IsSync}
use Rattle.chem_model.specs.contracts.program.Program as program
use Rattle.shared_net.specs.contracts.locked.Locked as locked
use Rattle.shared_net.specs.contracts.mail.Mailbox as mailbox
use Rattle.shared_net.specs.contracts.net.LockedTree as locked_tree
use Rattle.shared_net.specs.contracts.net.LockedSites as locked_sites
use Rattle.shared_net.specs.contracts.net.LockedMail as locked_mail
use Rattle.shared_net.specs.contracts.net.Parts as parts
use Rattle.shared_net.specs.declared.run.Run as Run

abbrev pub MailboxCrosses : Type 0
MailboxCrosses = IsSend mailbox.the_row

abbrev pub ProgramIsShared : Type 0
ProgramIsShared = IsSync program.the_row

abbrev pub LockedTreeIsShared : Type 0
LockedTreeIsShared = IsSync locked_tree.the_row

abbrev pub LockedSitesAreShared : Type 0
LockedSitesAreShared = IsSync locked_sites.the_row

abbrev pub LockedMailIsShared : Type 0
LockedMailIsShared = IsSync locked_mail.the_row

abbrev pub PartsAreShared : Type 0
PartsAreShared = IsSync parts.the_row

module _ (L : RattleType) (run : Run.Ghosts L.Denot) (ledger : Ledger.Ghosts L.Denot) where
  abbrev pub LockedCrosses : Type 0
  LockedCrosses = IsSend (locked.the_row L run ledger)
