-- Actions keep the port at which a packet came in.
use Rattle.std.proofs.Common.{◌≡◌, ℕ, true, ◌||◌, List, [], ◌∷◌, Some, None, Option, refl, sym, ap, ◌∙◌, ⊎_elim}
use Rattle.std.proofs.lemmas.Bool.{cases_Bool, false≢true}
use Rattle.mon_header.specs.declared.header.Header.{Header}
use Rattle.mon_header.specs.declared.action.Action.{Action}
use Rattle.mon_header.specs.declared.action.Action.TheVariants.{Output, SetVlanVid, SetVlanPcp, StripVlan, SetDlSrc, SetDlDst, SetNwSrc, SetNwDst, SetNwTos, SetTpSrc, SetTpDst, Enqueue, Unknown}
use Rattle.mon_outcome.specs.declared.door.Door.{Door}
use Rattle.mon_outcome.specs.declared.door.Door.TheVariants as door
use Rattle.mon_outcome.specs.declared.emission.Emission.{Emission}
use Rattle.mon_outcome.specs.Acting.{act}
use Rattle.mon_outcome.specs.Emitting.{Emitted, same_emission, through, with_emission, door_of, emissions, is_among, shown}
use Rattle.mon_outcome.proofs.Equality.{emission-same}

act-keeps : (action : Action) (h : Header) → (act action h).in_port ≡ h.in_port
act-keeps (Output port max_len) h = refl
act-keeps (SetVlanVid vid) h = refl
act-keeps (SetVlanPcp pcp) h = refl
act-keeps StripVlan h = refl
act-keeps (SetDlSrc address) h = refl
act-keeps (SetDlDst address) h = refl
act-keeps (SetNwSrc address) h = refl
act-keeps (SetNwDst address) h = refl
act-keeps (SetNwTos tos) h = refl
act-keeps (SetTpSrc port) h = refl
act-keeps (SetTpDst port) h = refl
act-keeps (Enqueue port queue) h = refl
act-keeps (Unknown bytes) h = refl

through-shows : (d : Door) (h : Header) → shown (through d h).0 ≡ h
through-shows (door.Port port) h = refl
through-shows (door.Controller whole) h = refl

-- what is among an action's emission and the later ones is that emission or among the later ones
among-first : (d : Option Door) (h : Header) (rest : List Emitted) (e : Emission) (n : ℕ) → h.in_port ≡ n → (is_among e rest ≡ true → (shown e).in_port ≡ n)
    → is_among e (with_emission d h rest) ≡ true → (shown e).in_port ≡ n
among-first None h rest e n p f i = f i
among-first (Some d) h rest e n p f i =
    ⊎_elim
    (λ y. ap (λ (x : Emission). (shown x).in_port) (sym ((emission-same (through d h).0 e).0 y)) ∙ (ap (λ (x : Header). x.in_port) (through-shows d h) ∙ p))
    (λ y. f (let g : (same_emission (through d h).0 e || is_among e rest) ≡ true = i in rw y at g))
    (cases_Bool (same_emission (through d h).0 e))

pub among-keeps : (actions : List Action) (h : Header) (e : Emission) → is_among e (emissions actions h) ≡ true → (shown e).in_port ≡ h.in_port
among-keeps [] h e i = absurd (false≢true i)
among-keeps (action ∷ actions) h e i =
    among-first (door_of action h.in_port) h (emissions actions (act action h)) e h.in_port refl
    (λ j. among-keeps actions (act action h) e j ∙ act-keeps action h)
    i
