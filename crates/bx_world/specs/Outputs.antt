-- The results of the world's calls, as outputs of steps.
use Rattle.std.specs.Prelude.{Result, Ok, Err}
use Rattle.bx_entry.specs.declared.{entry.Admitted.Admitted, input.AdmitFault.AdmitFault}
use Rattle.bx_entry.specs.declared.input.AdmitFault.TheVariants.{Refused, Memory}
use Rattle.bx_world.specs.declared.step.{Applied.Applied, StepOut.StepOut}
use Rattle.bx_world.specs.declared.step.Applied.TheVariants as applications
use Rattle.bx_world.specs.declared.step.StepOut.TheVariants as outs

-- The output of a step that admits an input, from the result of the admission.
abbrev pub admission : Result Admitted AdmitFault → StepOut
admission (Ok a) = outs.Admitted a.first a.slots
admission (Err (Refused refusal)) = outs.NotAdmitted refusal
admission (Err Memory) = outs.OutOfMemory

-- The output of a step that applies an entry, from the result of the application.
abbrev pub application : Applied → StepOut
application applications.Done = outs.Applied
application applications.Level = outs.Level
application applications.Memory = outs.OutOfMemory
