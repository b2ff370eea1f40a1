-- What a pass notes of a turn beside its receipts.
use Rattle.std.specs.Prelude.{ℕ, ◌+◌, ◌==◌, true, cond}
use Rattle.site_turn.specs.declared.turn.Turn.{Turn}
use Rattle.site_turn.specs.declared.turn.Turn.TheVariants.{Did, Passed, Nothing, NotEnabled, Full}
use Rattle.shared_net.specs.Passes.{PassKept}

-- one idle turn more: a count that stays at the last number of 32 bits
abbrev pub one_more_idle : ℕ → ℕ
one_more_idle n = cond (n == 4294967295) n (n + 1)

-- idle are the turns since the last one that found something to do; full, once the budget is used
abbrev pub noted : Turn → PassKept → PassKept
noted (Did place) p = record p { idle = 0 }
noted Passed p = record p { idle = 0 }
noted NotEnabled p = record p { idle = 0 }
noted Nothing p = record p { idle = one_more_idle p.idle }
noted Full p = record p { full = true }
