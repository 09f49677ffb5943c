-- How many records a command may name.
use Rattle.std.proofs.Common.{◌≡◌, ◌≤◌, ℕ, suc, true, List, [], ◌∷◌, ◌++◌, length, None, Option}
use Rattle.std.{proofs.Common.{Some, arith, inl, inr, subst, sym}, specs.Prelude.IfSome}
use Rattle.std.proofs.lemmas.Bool.{and_parts, cases_Bool, cond-false, cond-true, eqb-true}
use Rattle.std.specs.Str.{bytes_eq}
use Rattle.do_cli.specs.declared.{command.Command.Command, form.Form.Form}
use Rattle.do_cli.specs.declared.form.Form.TheVariants.{Replay, Leaks, Weave, Upgrade, Make, Node}
use Rattle.do_cli.specs.declared.form.{Form.TheVariants.{Lab, Help, Version}, TheConstants.FORMS}
use Rattle.do_cli.specs.declared.form.Kind.{Kind}
use Rattle.do_cli.specs.Forms.{command_among, command_by, fitting, follows, going, is_of, kinds_of}
use Rattle.do_cli.specs.Forms.{made, more_of, name_of, number_in, records_in, served}
use Rattle.do_cli.specs.declared.form.Kind.TheVariants.{Count, Number, Port, Turns}

-- no more words fit than there are kinds
fitting_within : (ks : List Kind) (ws : List (List ℕ)) → fitting ks ws ≤ length ks
fitting_within [] ws = omega arith
fitting_within (k ∷ ks) [] = omega arith
fitting_within (k ∷ ks) (w ∷ ws) = elim (cases_Bool (is_of k w)) [
  | inl is ↦ omega (arith, cond-true (is_of k w) (suc (fitting ks ws)) 0 is, fitting_within ks ws)
  | inr is ↦ omega (arith, cond-false (is_of k w) (suc (fitting ks ws)) 0 is)
]

-- `weave` goes on with 66 words at most
weave_within : (ws : List (List ℕ)) → going Weave ws ≤ 66
weave_within [] = omega arith
weave_within (w ∷ ws) =
    let all = kinds_of Weave ++ more_of Weave in
    elim (cases_Bool (bytes_eq w (name_of Weave))) [
      | inl is ↦ omega (
        arith,
        fitting_within all ws,
        cond-true (bytes_eq w (name_of Weave)) (suc (fitting all ws)) 0 is,
      )
      | inr is ↦ omega (
        arith,
        cond-false (bytes_eq w (name_of Weave)) (suc (fitting all ws)) 0 is,
      )
    ]

-- what is there names at most 64 records
abbrev Few : Option Command → Type 0
Few asked = IfSome asked (λ c. records_in c ≤ 64)

-- no record is named where a schedule is generated
few_made : (number count : Option ℕ) → Few (made number count)
few_made None count = tt
few_made (Some number) None = tt
few_made (Some number) (Some count) = omega arith

-- nor where a node is served
few_served : (port turns : Option ℕ) (world starts : List ℕ) → Few (served port world starts turns)
few_served None turns world starts = tt
few_served (Some port) None world starts = tt
few_served (Some port) (Some turns) world starts = omega arith

-- words that follow a form name at most 64 records
few_by : (f : Form) (ws : List (List ℕ)) → follows f ws ≡ true → Few (command_by f ws)
few_by Replay [] is = tt
few_by Replay (a ∷ []) is = tt
few_by Replay (a ∷ b ∷ []) is = tt
few_by Replay (a ∷ b ∷ c ∷ []) is = omega arith
few_by Replay (a ∷ b ∷ c ∷ d ∷ ws) is = tt
few_by Leaks [] is = tt
few_by Leaks (a ∷ []) is = tt
few_by Leaks (a ∷ b ∷ []) is = tt
few_by Leaks (a ∷ b ∷ c ∷ []) is = omega arith
few_by Leaks (a ∷ b ∷ c ∷ d ∷ ws) is = tt
few_by Weave [] is = tt
few_by Weave (a ∷ []) is = tt
few_by Weave (a ∷ b ∷ ws) is =
    let words = a ∷ b ∷ ws in
    let all : going Weave words ≡ length words =
    eqb-true (going Weave words) (length words) (and_parts _ _ is).1 in
    omega (arith, all, weave_within words)
few_by Upgrade [] is = tt
few_by Upgrade (a ∷ []) is = tt
few_by Upgrade (a ∷ b ∷ []) is = omega arith
few_by Upgrade (a ∷ b ∷ c ∷ ws) is = tt
few_by Make [] is = tt
few_by Make (a ∷ []) is = tt
few_by Make (a ∷ b ∷ []) is = tt
few_by Make (a ∷ b ∷ c ∷ []) is = few_made (number_in Number b) (number_in Count c)
few_by Make (a ∷ b ∷ c ∷ d ∷ ws) is = tt
few_by Node [] is = tt
few_by Node (a ∷ []) is = tt
few_by Node (a ∷ b ∷ []) is = tt
few_by Node (a ∷ b ∷ c ∷ []) is = tt
few_by Node (a ∷ b ∷ c ∷ d ∷ []) is = tt
few_by Node (a ∷ b ∷ c ∷ d ∷ e ∷ []) is =
    few_served (number_in Port b) (number_in Turns e) c d
few_by Node (a ∷ b ∷ c ∷ d ∷ e ∷ f ∷ ws) is = tt
few_by Lab [] is = tt
few_by Lab (a ∷ []) is = tt
few_by Lab (a ∷ b ∷ []) is = omega arith
few_by Lab (a ∷ b ∷ c ∷ ws) is = tt
few_by Help [] is = tt
few_by Help (a ∷ []) is = omega arith
few_by Help (a ∷ b ∷ ws) is = tt
few_by Version [] is = tt
few_by Version (a ∷ []) is = omega arith
few_by Version (a ∷ b ∷ ws) is = tt

-- so do the words of the first form that they follow
few_among : (fs : List Form) (ws : List (List ℕ)) → Few (command_among fs ws)
few_among [] ws = tt
few_among (f ∷ fs) ws = elim (cases_Bool (follows f ws)) [
  | inl is ↦
      subst Few (sym (cond-true _ (command_by f ws) (command_among fs ws) is)) (few_by f ws is)
  | inr is ↦
      subst Few (sym (cond-false _ (command_by f ws) (command_among fs ws) is)) (few_among fs ws)
]

-- a command names at most 64 records
pub few_records : (ws : List (List ℕ)) (c : Command) → Some c ≡ command_among FORMS ws →
    records_in c ≤ 64
few_records ws c is = subst Few (sym is) (few_among FORMS ws)
