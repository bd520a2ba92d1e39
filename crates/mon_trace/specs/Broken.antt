-- Texts that are traces.
use Rattle.std.specs.Prelude.{◌≡◌, ℕ, List, Ok}
use Rattle.mon_trace.specs.Grammar.{Traced, trace_of}

-- the text is some trace
abbrev pub IsTrace : List ℕ → Type 0
IsTrace text = (t : Traced) × (trace_of text ≡ Ok t)
