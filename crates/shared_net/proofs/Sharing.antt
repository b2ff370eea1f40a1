-- Threads may share all of a network but its book, where they may share each part of it.
use denote.Builtin.{u32}
use denote.Struct.Field.{u32-field}
use denote.Param.Send.{IsSync, view_sync, sendable}
use denote.Param.SendFields.{declared_sync, as_row_sync}
use Rattle.chem_model.specs.contracts.program.Program as program
use Rattle.site_turn.specs.contracts.shared.SharedCode as code
use Rattle.shared_net.specs.contracts.net.Parts as parts
use Rattle.shared_net.specs.declared.net.Parts as declared
use Rattle.site_turn.specs.Crosses.{SharedCodeIsShared}
use Rattle.shared_net.specs.inside.Crosses.{ProgramIsShared, LockedTreeIsShared}
use Rattle.shared_net.specs.inside.Crosses.{LockedSitesAreShared, LockedMailIsShared}
use Rattle.shared_net.specs.inside.Crosses.{PartsAreShared}

budget_is_shared : IsSync u32
budget_is_shared = search sendable

pub all_shared :
    ProgramIsShared → SharedCodeIsShared → LockedTreeIsShared → LockedSitesAreShared
    → LockedMailIsShared → PartsAreShared
all_shared p c t s m =
    let inner : IsSync parts.TheInside.the_row = declared_sync parts.TheInside.the_type (
      as_row_sync program.the_field p,
      (as_row_sync code.the_field c, (as_row_sync u32-field budget_is_shared, (t, (s, (m, tt))))),
    ) in
    view_sync parts.TheInside.the_row declared.Parts declared.the_code declared.TheView.view
    declared.TheView.invariant inner
