-- Which site sent each packet under way, as runs of packets of one site.
use Rattle.std.specs.Prelude.{ℕ, List, [], ◌∷◌, replicate}
use Rattle.net_core.specs.declared.senders.Run.{Run}
use Rattle.net_core.specs.Parts.{joined}

-- the site of each packet, run by run
abbrev pub in_runs : List Run → List (List ℕ)
in_runs [] = []
in_runs (r ∷ rs) = replicate r.count r.from ∷ in_runs rs

-- and in one
abbrev pub spread : List Run → List ℕ
spread runs = joined (in_runs runs)
