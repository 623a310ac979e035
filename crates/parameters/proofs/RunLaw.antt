-- What one call does carries over to every run of calls.
use Rattle.std.proofs.Common.{◌≡◌, ℕ, cond, length, Some, None, Option, refl, ap, ◌∙◌}
use Rattle.parameters.specs.declared.parameter.Parameter.{Parameter}
use Rattle.parameters.specs.Parameters.{parameter_numbered}
use Rattle.parameters.specs.Values.{Values, value_of, asked, byte_at, writes}
use Rattle.parameters.specs.Histories.{Call, told_length, told_byte, wrote, History, began, ◌▸◌, Step, Run, last_lawful, LawOfRuns, LeadsOn}

-- Values that agree are asked for alike.
alike : (f g : Values) (o : Option Parameter) → ((p : Parameter) → f p ≡ g p) → value_of f o ≡ value_of g o
alike f g None same = refl
alike f g (Some p) same = same p

asked_alike : (f g : Values) (number : ℕ) → ((p : Parameter) → f p ≡ g p) → asked f number ≡ asked g number
asked_alike f g number same = alike f g (parameter_numbered number) same

pub law_of_runs : (h : History) (values : Values) → Run h values → LawOfRuns h values
law_of_runs (began first) values run = record { holds = run; told = tt }
law_of_runs (h ▸ told_length number answer) values run =
    let before = law_of_runs h run.0 run.1 in
    record {
      holds = λ p. run.2.1 p ∙ before.holds p;
      told = (before.told, run.2.0 ∙ ap length (asked_alike run.0 (last_lawful h) number before.holds));
    }
law_of_runs (h ▸ told_byte number place answer) values run =
    let before = law_of_runs h run.0 run.1 in
    record {
      holds = λ p. run.2.1 p ∙ before.holds p;
      told = (before.told, run.2.0 ∙ ap (λ v. byte_at v place) (asked_alike run.0 (last_lawful h) number before.holds));
    }
law_of_runs (h ▸ wrote number value taken) values run =
    let before = law_of_runs h run.0 run.1 in
    record {
      holds = λ p. run.2.1 p ∙ ap (λ v. cond (writes p number value) value v) (before.holds p);
      told = (before.told, run.2.0);
    }

-- A call that does one step leads a run on.
pub leads_on : (h : History) (call : Call) (before after : Values) → Step before call after → Run h before → LeadsOn (h ▸ call) after
leads_on h call before after step run =
    let longer : Run (h ▸ call) after = (before, run, step) in
    record { run = longer; law = law_of_runs (h ▸ call) after longer }
