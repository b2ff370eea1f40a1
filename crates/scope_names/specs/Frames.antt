-- The names of one scope.
use Rattle.std.specs.Prelude.{ℕ, List, [], ◌∷◌, Option, Some, None, if◌then◌else◌}
use Rattle.std.specs.Str.{bytes_eq}
use denote.Ref.{Bor}
use Rattle.scope_names.specs.declared.scope.Entry.{Entry}

abbrev pub in_frame : List ℕ → List (List ℕ × Entry) → Option Entry
in_frame name [] = None
in_frame name (e ∷ frame) = if bytes_eq name e.0 then Some e.1 else in_frame name frame

abbrev pub spelled : List (Bor (List ℕ) × Entry) → List (List ℕ × Entry)
spelled [] = []
spelled (e ∷ es) = (e.0.now, e.1) ∷ spelled es

abbrev pub inner : Option Entry → Option Entry → Option Entry
inner None outer = outer
inner (Some e) outer = Some e

-- the innermost scope with that spelling
abbrev pub in_env : List ℕ → List (List (List ℕ × Entry)) → Option Entry
in_env name [] = None
in_env name (s ∷ env) = inner (in_frame name s) (in_env name env)

abbrev pub scopes_around : List (List ℕ × Entry) → Option (Bor (List (List (List ℕ × Entry))))
    → List (List (List ℕ × Entry))
scopes_around s None = s ∷ []
scopes_around s (Some outer) = s ∷ outer.now
