mod OkEquations
