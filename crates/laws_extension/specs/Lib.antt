-- Step 3. `Waking` has its turns and a cursor that finds the same slots; `Chain` a test of whether a slot helps that needs no second run.
pub mod Waking
pub mod Chain
